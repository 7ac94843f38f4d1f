-- How many ticks draining takes (01 The line, "Draining": "it is the sum over queued commands of ..; commands already begun don't count").
-- Assumes nothing.
use Rattle.std.specs.Prelude.{◌≡◌, true, false, List, [], ◌∷◌, ℕ, ◌+◌, ◌*◌, ltb, length}
use Rattle.base.specs.Pick.{pick}
use Rattle.line.specs.declared.Ear.TheVariants.{Quiet}
use Rattle.registers.specs.Registers.{blocking}
use Rattle.registers.specs.declared.Mode.TheVariants.{Normal}
use Rattle.state.specs.Frame.{to_come}
use Rattle.state.specs.Queue.{places, waiting}
use Rattle.state.specs.Rings.{tx_size, rx_size}
use Rattle.state.specs.Sending.{idle}
use Rattle.state.specs.declared.Bridge.{Bridge}
use Rattle.state.specs.declared.Note.TheVariants.{Done}
use Rattle.state.specs.declared.Place.{Place}
use Rattle.rules.specs.Sound.{sound}
use Rattle.drain.specs.Drain.{End, at_rest}

-- "19 + 17 x words + 18 x extra ENDs, 18 x extra ENDs where there are no words"
unfoldable pub cost : Place → ℕ
cost p = pick (ltb 0 p.words) (19 + 17 * p.words + 18 * p.ends) (18 * p.ends)

unfoldable pub cost_of : List Place → ℕ
cost_of [] = 0
cost_of (p ∷ ps) = cost p + cost_of ps

-- "the sum over queued commands ..; commands already begun don't count"
abbrev pub ticks_due : Bridge → ℕ
ticks_due b = cost_of (waiting b.sending.queue)

-- "In NORMAL, POR clear, no blocking flag, sender and reader idle, no END owed and all queued words stored". `idle` is false while an END is
-- owed; `to_come` are the words of queued commands that are not stored yet.
pub record Calm (b : Bridge) : Type 0 where
  pub normal : b.control.mode ≡ Normal
  pub clear : b.control.flags.por ≡ false
  pub unblocked : blocking b.control.flags ≡ false
  pub sender : idle b.sending.sender ≡ true
  pub reader : b.receiving.reader.ear ≡ Quiet
  pub stored : to_come b.frame.phase ≡ 0

-- "with neither note 1 nor 2 due". There are eight places, as the array's type says.
pub record Accepted (b : Bridge) (tx rx : List ℕ) : Type 0 where
  pub tx_length : length tx ≡ tx_size
  pub rx_length : length rx ≡ rx_size
  pub rules : sound b ≡ true
  pub eight : length b.sending.queue.places ≡ places

-- drained to rest with no note, in so many ticks
pub record Rests (e : End) (n : ℕ) : Type 0 where
  pub ticks : e.drained.ticks ≡ n
  pub note : e.drained.note ≡ Done
  pub rest : at_rest e.drained.state ≡ true
