-- Runs of quiet ticks, over the few fields that such a tick moves. No rule: what a tick does is what `turn` says of it, and
-- proofs/Ticks.antt shows that these give that. Assumes nothing.
use Rattle.std.specs.Prelude.{Bool, true, false, ◌&&◌, ◌||◌, ℕ, ◌+◌, ◌-◌, ltb}
use Rattle.base.specs.Pick.{pick}
use Rattle.line.specs.Format.{end_length, piece_length, piece_bit}
use Rattle.line.specs.Reader.{hear}
use Rattle.line.specs.declared.Piece.{Piece}
use Rattle.line.specs.declared.Piece.TheVariants.{Pause}
use Rattle.next.specs.Next.{may_start}
use Rattle.reader.specs.Reader.{with_ear}
use Rattle.plan.specs.Plan.{no_answer, settled}
use Rattle.state.specs.declared.Bridge.{Bridge}
use Rattle.state.specs.declared.Clock.{Clock}
use Rattle.state.specs.declared.Note.TheVariants.{Done}
use Rattle.state.specs.declared.Sender.{Sender}
use Rattle.ticks.specs.Ticks.{same}
use Rattle.events.specs.declared.Answer.{Answer}
use Rattle.quick.specs.Passing.{is_nothing, rests}
use Rattle.lull.specs.declared.Hot.{Hot}

abbrev pub hot_of : Bridge → Hot
hot_of b = record { ear = b.receiving.reader.ear; gone = b.sending.sender.gone; watching = b.clock.watching; sin = b.clock.sin }

abbrev pub rests_in : Bridge → Bool
rests_in b = rests b.sending (may_start b.control)

-- the bits of the piece under way that quiet ticks may send: not its last, with which a place may be sent, unless a word follows it
unfoldable pub reach : Sender → ℕ
reach s =
    pick (ltb 0 s.left) (pick (ltb (piece_length s.piece) end_length) (piece_length s.piece) (piece_length s.piece - 1)) (piece_length s.piece - 1)

unfoldable pub gone_on : ℕ → Bool → ℕ
gone_on gone still = pick still 0 (gone + 1)

-- within the reach, or at rest; the reader completes nothing
abbrev pub quiet_by : Hot → ℕ → Bool → Bool → Bool
quiet_by h to still sin = is_nothing (hear h.ear sin).found && (still || ltb h.gone to)

abbrev pub next_hot : Hot → Bool → Bool → Hot
next_hot h still sin = record {
  ear = (hear h.ear sin).ear;
  gone = gone_on h.gone still;
  watching = same sin h.sin && h.watching;
  sin = sin;
}

unfoldable pub quiet_bit : Hot → Piece → Bool → Bool
quiet_bit h p still = pick still true (piece_bit p h.gone)

unfoldable pub laid_sender : Sender → Bool → ℕ → Sender
laid_sender s still gone =
    pick still (record { piece = Pause; gone = 0; left = 0; ends = 0 }) (record { piece = s.piece; gone = gone; left = s.left; ends = s.ends })

abbrev pub laid_clock : Clock → Bool → Bool → Clock
laid_clock c watching sin = record { reading = c.reading; mark = c.mark; watching = watching; watch_mark = c.watch_mark; sin = sin }

-- the record as a run of such ticks leaves it
abbrev pub laid : Bridge → Bool → Hot → Bridge
laid b still h = record {
  control = settled b.control b.receiving.rx.count false;
  sending = record { tx = b.sending.tx; queue = b.sending.queue; sender = laid_sender b.sending.sender still h.gone };
  receiving = with_ear b.receiving h.ear;
  frame = b.frame;
  clock = laid_clock b.clock h.watching h.sin;
}

-- after so many ticks: none, or some
abbrev pub laid_by : Bool → Bridge → Bool → Hot → Bridge
laid_by some b still h = pick some (laid b still h) b

-- what a quiet tick answers
abbrev pub quiet_answer : Bridge → Bool → Hot → Bool → Answer
quiet_answer b still h sin = record {
  state = laid b still (next_hot h still sin);
  sdo = no_answer;
  sout = quiet_bit h b.sending.sender.piece still;
  note = Done;
}
