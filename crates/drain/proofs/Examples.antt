-- 01 Numbers on both sides: "One word 0xAAF0 takes 36 ticks"; "No words, 3 extra ENDs: 54 ticks". Computed from the definition, with no theorem.
use mathlib.Core.Path.{◌≡◌, refl}
use mathlib.Core.Bool.{Bool, true, false}
use mathlib.Core.List.{◌∷◌}
use Prim.Native.Nat.{ℕ}
use lib.ListN.{replicate}
use Rattle.layout.specs.declared.Layout.TheVariants.{Ours}
use Rattle.base.specs.Bits.{val, odd, bit, high_first}
use Rattle.base.specs.Pick.{pick}
use Rattle.crc16.specs.Crc.{shift, crc_bit, crc_bits, crc_word}
use Rattle.command.specs.Layouts.{layouts}
use Rattle.line.specs.Format.{check_bit, word_bit, piece_bit}
use Rattle.line.specs.Reader.{hear}
use Rattle.registers.specs.Raising.{raised}
use Rattle.registers.specs.Registers.{blocking, power_up_control, table_of, reset_regs, cleared, power_up_flags}
use Rattle.registers.specs.declared.Mode.TheVariants.{Normal}
use Rattle.state.specs.Frame.{mine_of, to_come, phase_sound}
use Rattle.state.specs.Power.{power_up, power_up_in}
use Rattle.state.specs.Queue.{no_place, new_place, waiting, words_of, moved, freed, returned, places_of, places_in, in_use, place_at}
use Rattle.state.specs.Rings.{written}
use Rattle.state.specs.declared.Bridge.{Bridge}
use Rattle.state.specs.declared.Note.TheVariants.{WrongStores, BrokenRecord}
use Rattle.place_rules.specs.Places.{role_sound, slot_sound, slots_below}
use Rattle.line_rules.specs.Line.{piece_sound, ear_sound, marks_sound, end_sound}
use Rattle.frame_rules.specs.Frames.{is_unmarked}
use Rattle.next.specs.Next.{choose, bit_sent}
use Rattle.sender.specs.Sender.{word_sent, queue_sent, sender_after, advanced, place_sent, finished, sent_by, tick_sender, command_sent}
use Rattle.reader.specs.Reader.{taken_by, tick_reader}
use Rattle.plan.specs.Plan.{settled}
use Rattle.ticks.specs.Ticks.{same, mark_after, watched, starved_flags, flags_sent, phase_after, control_ticked, tick_note, tick_ends, tick_hears, ticked}
use Rattle.events.specs.Events.{reacted}
use Rattle.events.specs.Turn.{turned, turn}
use Rattle.drain.specs.Drain.{End, run_of, drain}
use Rattle.drain.specs.Cost.{Calm, Accepted}

-- power-up with its flags cleared, and one command queued with all its words in TX
unfoldable pub queued_one : ℕ → ℕ → Bridge
queued_one words ends = record {
  control = record { mode = Normal; drdy = true; flags = cleared power_up_flags; regs = reset_regs Ours };
  sending = record {
    tx = record { head = 0; count = words };
    queue = record { places = new_place words ends false ∷ replicate 7 no_place; used = 1; begun = 0 };
    sender = power_up.sending.sender;
  };
  receiving = power_up.receiving;
  frame = power_up.frame;
  clock = power_up.clock;
}

unfoldable pub drained_one : ℕ → ℕ → ℕ → ℕ → End
unfolding queued_one val odd bit high_first pick shift crc_bit crc_bits crc_word check_bit word_bit piece_bit hear raised blocking power_up_control table_of reset_regs cleared power_up_flags mine_of to_come phase_sound power_up_in no_place new_place waiting words_of moved freed returned written role_sound slot_sound slots_below end_sound piece_sound ear_sound marks_sound is_unmarked choose bit_sent word_sent queue_sent sender_after advanced place_sent command_sent finished sent_by tick_sender taken_by tick_reader settled same mark_after watched starved_flags flags_sent phase_after control_ticked tick_note tick_ends tick_hears ticked reacted turned turn run_of drain places_of places_in
drained_one words ends cells budget = drain layouts (queued_one words ends) (replicate cells 0xAAF0) (replicate 256 0) budget

pub one_word : (drained_one 1 0 512 100).drained.ticks ≡ 36
unfolding drained_one
one_word = refl

pub ends_alone : (drained_one 0 3 512 100).drained.ticks ≡ 54
unfolding drained_one
ends_alone = refl

-- 02 item 3: a word and two extra ENDs, 19 + 17 + 36 ticks as ever, and two places. The words' place is sent with the last 1 of its own END, at tick 36; the
-- ENDs' place is freed with their last, at tick 72; the words' waits for its reading.
pub a_pair : (drained_one 1 2 512 100).drained.ticks ≡ 72
unfolding drained_one
a_pair = refl

abbrev in_use_at : ℕ → ℕ
in_use_at ticks = in_use (drained_one 1 2 512 ticks).drained.state.sending.queue

abbrev sent_at : ℕ → Bool
sent_at ticks = (place_at (drained_one 1 2 512 ticks).drained.state.sending.queue 0).sent

pub two_at_first : in_use_at 0 ≡ 2
unfolding drained_one
two_at_first = refl

pub not_sent_yet : sent_at 35 ≡ false
unfolding drained_one
not_sent_yet = refl

pub words_sent : sent_at 36 ≡ true
unfolding drained_one
words_sent = refl

pub two_to_the_last_end : in_use_at 71 ≡ 2
unfolding drained_one
two_to_the_last_end = refl

pub ends_freed : in_use_at 72 ≡ 1
unfolding drained_one
ends_freed = refl

-- the budget's end
pub cut_off : (drained_one 1 0 512 35).drained.ticks ≡ 35
unfolding drained_one
cut_off = refl

-- notes 1 and 2 come first, also with budget 0: no tick is made
pub short_store : (drained_one 1 0 511 0).drained.note ≡ WrongStores
unfolding drained_one
short_store = refl

pub short_store_ticks : (drained_one 1 0 511 100).drained.ticks ≡ 0
unfolding drained_one
short_store_ticks = refl

-- nothing to send waits: the record rules refuse it
pub broken : (drained_one 0 0 512 0).drained.note ≡ BrokenRecord
unfolding drained_one
broken = refl

-- the premises of the sum can be met
pub calm : (words ends : ℕ) → Calm (queued_one words ends)
unfolding queued_one cleared power_up_flags blocking power_up_in to_come
calm words ends = record { normal = refl; clear = refl; unblocked = refl; sender = refl; reader = refl; stored = refl }

pub accepted : Accepted (queued_one 1 0) (replicate 512 0xAAF0) (replicate 256 0)
unfolding drained_one
accepted = record { tx_length = refl; rx_length = refl; rules = refl; eight = refl }
