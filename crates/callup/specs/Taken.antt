-- What a call-up finds when it is taken, and what it leaves (02 item 13). Assumes nothing.
use Rattle.std.specs.Prelude.{◌≡◌, false, List, [], ◌∷◌, ℕ, ◌+◌, ◌≤◌, ◌<◌, length, get_or}
use Rattle.base.specs.Bits.{word_end}
use Rattle.command.specs.Layouts.{Layouts}
use Rattle.line.specs.Format.{Words}
use Rattle.registers.specs.Registers.{blocking}
use Rattle.registers.specs.declared.Mode.TheVariants.{Normal}
use Rattle.state.specs.Queue.{places, in_use}
use Rattle.state.specs.Rings.{tx_size}
use Rattle.state.specs.declared.Note.TheVariants.{Done}
use Rattle.state.specs.declared.Phase.TheVariants.{Idle}
use Rattle.events.specs.declared.Event.{Event}
use Rattle.bridge.specs.Runs.{Config, out_of, next}
use Rattle.verdict.specs.Verdicts.{call_up_most}

-- refusal 34 does not meet it: "bridge not in NORMAL, POR set, a blocking flag up, a host frame open or discarding"
pub record Open (c : Config) : Type 0 where
  pub normal : c.bridge.control.mode ≡ Normal
  pub clear : c.bridge.control.flags.por ≡ false
  pub unblocked : blocking c.bridge.control.flags ≡ false
  pub idle_frame : c.bridge.frame.phase ≡ Idle

-- refusals 33, 34 and 35 do not: "the bridge has two places free and room in TX for its words and the VSYNC"
pub record Takes (c : Config) (ws : List ℕ) : Type 0 where
  pub ready : Open c
  pub some : 1 ≤ length ws
  pub most : length ws ≤ call_up_most
  pub sixteen : Words ws
  pub two_places : in_use c.bridge.sending.queue + 2 ≤ places
  pub room : c.bridge.sending.tx.count + length ws + 1 ≤ tx_size

-- every note of a run is 0
abbrev pub AllDone : Layouts → Config → List Event → Type 0
AllDone l c [] = Unit {0}
AllDone l c (e ∷ es) = ((out_of l c e).answer.note ≡ Done) × AllDone l (next l c e) es

-- a store of sixteen-bit numbers
abbrev pub Sixteens : List ℕ → Type 0
Sixteens cells = (i : ℕ) → get_or cells i 0 < word_end

-- what a frame leaves as it was: all but TX and the queue, the frame, DRDY and the watchdog's mark
pub record Same (c d : Config) : Type 0 where
  pub mode : d.bridge.control.mode ≡ c.bridge.control.mode
  pub flags : d.bridge.control.flags ≡ c.bridge.control.flags
  pub regs : d.bridge.control.regs ≡ c.bridge.control.regs
  pub sender : d.bridge.sending.sender ≡ c.bridge.sending.sender
  pub receiving : d.bridge.receiving ≡ c.bridge.receiving
  pub head : d.bridge.sending.tx.head ≡ c.bridge.sending.tx.head
  pub rx : d.rx ≡ c.rx
