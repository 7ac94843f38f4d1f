-- Runs of host words over the few fields that they move: a forward's data words that are stored and release nothing, and words that leave the
-- frame as it is. No rule: what a word does is what `turn` says of it, and proofs/ shows that these give that. Assumes nothing.
use Rattle.std.specs.Prelude.{Bool, true, false, not, ◌&&◌, ◌||◌, ℕ, ◌+◌, ltb, leb, eqb}
use Rattle.base.specs.Pick.{pick}
use Rattle.command.specs.declared.Command.{Command}
use Rattle.command.specs.declared.Command.TheVariants.{Filler, Malformed, Forward, DataRead, RegisterWrite, RegisterRead, SoftReset}
use Rattle.crc16.specs.Crc.{crc_word}
use Rattle.plan.specs.Plan.{settled, marked}
use Rattle.state.specs.Rings.{tx_size}
use Rattle.state.specs.declared.Bridge.{Bridge}
use Rattle.state.specs.declared.Note.{Note}
use Rattle.state.specs.declared.Note.TheVariants.{Done, Discarded}
use Rattle.state.specs.declared.Phase.{Phase}
use Rattle.state.specs.declared.Phase.TheVariants.{Idle, Collecting, Answering, Discarding}
use Rattle.pouring.specs.declared.Bed.{Bed}
use Rattle.pouring.specs.declared.Stream.{Stream}

abbrev pub no_bed : Bed
no_bed = record { flows = false; words = 0; named = false; released = false }

unfoldable pub bed_in : Command → Bool → Bool → Bed
bed_in Filler released blocked = no_bed
bed_in Malformed released blocked = no_bed
bed_in (Forward crc words ends reads) released blocked = record { flows = not blocked; words = words; named = crc; released = released }
bed_in (DataRead crc words) released blocked = no_bed
bed_in (RegisterWrite crc address count) released blocked = no_bed
bed_in (RegisterRead crc address count) released blocked = no_bed
bed_in SoftReset released blocked = no_bed

unfoldable pub bed_of : Phase → Bed
bed_of Idle = no_bed
bed_of (Collecting command got sum mine released blocked) = bed_in command released blocked
bed_of (Answering reply sum) = no_bed
bed_of Discarding = no_bed

abbrev pub stream : ℕ → ℕ → ℕ → ℕ → Stream
stream got crc mine count = record { got = got; crc = crc; mine = mine; count = count }

unfoldable pub stream_of : Phase → ℕ → Stream
stream_of Idle n = stream 0 0 0 n
stream_of (Collecting command got sum mine released blocked) n = stream got sum mine n
stream_of (Answering reply sum) n = stream 0 0 0 n
stream_of Discarding n = stream 0 0 0 n

-- the next word is stored and releases nothing
unfoldable pub pours : Stream → Bed → ℕ → Bool
pours s d level =
    pick (ltb s.got d.words) (ltb s.count tx_size && (d.named || d.released || not (leb level s.count || eqb (s.got + 1) d.words))) false

unfoldable pub mine_on : ℕ → Bool → ℕ
mine_on mine released = pick released mine (mine + 1)

abbrev pub poured_on : Stream → Bool → ℕ → Stream
poured_on s released w = stream (s.got + 1) (crc_word s.crc w) (mine_on s.mine released) (s.count + 1)

-- a filler outside a frame, and every word of a frame that is discarded, leave the frame as it is
unfoldable pub stays : Phase → ℕ → Bool
stays Idle w = eqb w 0xFFFF
stays (Collecting command got sum mine released blocked) w = false
stays (Answering reply sum) w = false
stays Discarding w = true

unfoldable pub stay_note : Phase → Note
stay_note Idle = Done
stay_note (Collecting command got sum mine released blocked) = Done
stay_note (Answering reply sum) = Done
stay_note Discarding = Discarded

unfoldable pub poured_phase : Phase → Stream → Phase
poured_phase Idle s = Idle
poured_phase (Collecting command got sum mine released blocked) s = Collecting command s.got s.crc s.mine released blocked
poured_phase (Answering reply sum) s = Answering reply sum
poured_phase Discarding s = Discarding

-- the record as a run of such words leaves it
abbrev pub poured : Bridge → Stream → Bridge
poured b s = record {
  control = settled b.control b.receiving.rx.count false;
  sending = record { tx = record { head = b.sending.tx.head; count = s.count }; queue = b.sending.queue; sender = b.sending.sender };
  receiving = b.receiving;
  frame = record { phase = poured_phase b.frame.phase s; held = b.frame.held; xmodem = b.frame.xmodem };
  clock = marked b.clock;
}

abbrev pub poured_by : Bool → Bridge → Stream → Bridge
poured_by some b s = pick some (poured b s) b
