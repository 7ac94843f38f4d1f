-- Closed runs. That each meets the premises, and has sent all, is computed; what its line shows is told by the theorem alone.
use mathlib.Core.Path.{◌≡◌, refl, ◌∙◌, subst}
use mathlib.Core.Bool.{Bool, true, false}
use mathlib.Core.List.{List, [], ◌∷◌, ◌++◌, map}
use Prim.Native.Nat.{ℕ}
use lib.ListN.{replicate, length-replicate}
use Rattle.registers.specs.Spictrl.{dog_limit_in, is_xmodem_in}
use Rattle.layout.specs.declared.Layout.TheVariants.{Ours}
use Rattle.base.specs.Bits.{val, odd, bit, high_first}
use Rattle.base.specs.Pick.{pick}
use Rattle.crc16.specs.Crc.{shift, crc_bit, crc_bits, crc_word, crc_from, crc_of}
use Rattle.command.specs.Layout.{write, spans, register_write, soft_reset, rows, by_number, fields_of, decode_by}
use Rattle.registers.specs.Raising.{raised, went_bad}
use Rattle.registers.specs.Registers.{blocking, power_up_control, table_of, reset_regs, cleared, power_up_flags}
use Rattle.registers.specs.Writing.{write_status, write_masked, write_of, write_txfflvl}
use Rattle.line.specs.Format.{check_bit, word_bit, piece_bit}
use Rattle.line.specs.Reader.{Sent, run_on, shift_in, next_number, at_check, in_group, in_lost, hear, read_line}
use Rattle.state.specs.Frame.{mine_of, owed_by, to_come, collect_sound, reply_sound, phase_sound}
use Rattle.state.specs.Power.{power_up, power_up_in, bad_control, power_up_bad_in}
use Rattle.state.specs.Queue.{no_place, new_place, waiting, words_of, moved, freed, first_unread, claimed, returned, places_of, places_in, lacks}
use Rattle.state.specs.Rings.{written, ring_after}
use Rattle.state.specs.Sending.{owing, stored, done}
use Rattle.place_rules.specs.Places.{role_sound, slot_sound, slots_below}
use Rattle.line_rules.specs.Line.{piece_sound, ear_sound, marks_sound, end_sound}
use Rattle.frame_rules.specs.Frames.{is_unmarked}
use Rattle.next.specs.Next.{choose, bit_sent}
use Rattle.sender.specs.Sender.{word_sent, queue_sent, sender_after, advanced, finished, sent_by, tick_sender, place_sent, command_sent}
use Rattle.reader.specs.Reader.{word_read, error_read, end_read, word_taken, at_end, ended, taken_by, tick_reader, began}
use Rattle.forwards.specs.Forward.{asks_store, guard, mine_after, enqueues, clears, forwarded, forward_word, forward_begun, faulted}
use Rattle.host.specs.Frames.{opened, data_word, planned_in, planned}
use Rattle.release.specs.Release.{released_in}
use Rattle.writes.specs.Writes.{is_quiet, is_transmit_clear, is_receive_clear, is_refused, with_write, register_word}
use Rattle.closing.specs.Closing.{wrong_crc, forward_closed, crc_due, reset_closed, registers_closed}
use Rattle.release.specs.Release.{cut_deed, cut}
use Rattle.plan.specs.Plan.{cleared_away, received, settled, concluded, performed}
use Rattle.events.specs.Events.{powered, reacted}
use Rattle.ticks.specs.Ticks.{blocked_in, same, mark_after, watched, starved_flags, flags_sent, phase_after, control_ticked, tick_ends, tick_hears, ticked, tick_note}
use Rattle.clock.specs.Clock.{clocked, elapsed, mode_at, flags_at, control_at}
use Rattle.bridge.specs.Step.{step}
use Rattle.events.specs.Turn.{turned, turn}
use Rattle.kept.proofs.Fits.{layouts_fit}
use Rattle.order.specs.Accepted.{plan_of, came, accepts, collects, joined, settle, logged, log_by, listed, accepted_in}
use Rattle.order.specs.Premises.{is_power, typed, fair, premises}
use Rattle.bridge.specs.Runs.{Config, RightStores, faults, out_of, next, end_of, line_bit, sout_of, power_on, all_sent}
use Rattle.command.specs.Layouts.{layouts, start_by}
use Rattle.events.specs.declared.Event.{Event}
use Rattle.events.specs.declared.Event.TheVariants.{Power, Word, Release, Tick, Clock as ClockReading}
use Rattle.order.proofs.Order.{in_order, all_sent as all_sent_lem}
use Rattle.order.proofs.Closed.{demand_3_script}
use Rattle.order.proofs.Tests.{are_premises, is_all_sent}

-- From power-up with good OTP, both stores full of zeros.
abbrev pub from : Config
from = power_on true Ours (replicate 512 0) (replicate 256 0)

zeros : RightStores (replicate 512 0) (replicate 256 0)
zeros = record { tx_is = length-replicate {A = ℕ} 512 0; rx_is = length-replicate {A = ℕ} 256 0 }

-- The line's bits that nobody drives.
pub ticks : ℕ → List Event
ticks n = replicate n (Tick true)

-- A frame: its words, their CRC, chip select released.
pub frame : List ℕ → List Event
frame ws = map Word ws ++ (Word (crc_of ws) ∷ (Release ∷ []))

-- REG_WR of STATUS bit 15: POR is cleared, so that the sender may start.
pub opening : List Event
opening = frame (0xB007 ∷ 0x8000 ∷ [])

-- The run meets the premises; at its end all is sent.
unfoldable pub meets : List Event → Bool
unfolding ticks frame opening val odd bit high_first pick shift crc_bit crc_bits crc_word crc_from crc_of write register_write spans rows by_number decode_by fields_of raised went_bad blocking power_up_control write_status write_masked write_of check_bit word_bit piece_bit run_on shift_in at_check in_group in_lost next_number hear mine_of owed_by to_come collect_sound reply_sound phase_sound power_up_in no_place new_place waiting words_of moved freed first_unread claimed returned written ring_after stored done role_sound slot_sound slots_below end_sound piece_sound ear_sound marks_sound is_unmarked choose bit_sent word_sent queue_sent sender_after advanced finished sent_by tick_sender word_read error_read end_read word_taken at_end ended taken_by tick_reader asks_store guard mine_after enqueues clears forwarded forward_word forward_begun opened is_quiet is_transmit_clear is_receive_clear is_refused with_write register_word data_word wrong_crc forward_closed crc_due planned_in planned released_in cleared_away received settled concluded start_by is_xmodem_in dog_limit_in performed powered blocked_in same mark_after watched starved_flags flags_sent phase_after control_ticked tick_ends tick_hears ticked clocked reacted turned turn step plan_of came accepts collects joined settle logged log_by listed accepted_in is_power typed fair premises faults out_of next end_of line_bit sout_of power_on all_sent table_of reset_regs cleared power_up_flags write_txfflvl registers_closed faulted tick_note elapsed mode_at flags_at control_at place_sent command_sent began places_of places_in lacks
meets es = premises layouts from es

unfoldable sends_all : List Event → Bool
unfolding meets
sends_all es = all_sent (end_of layouts from es).bridge.sending

-- What the theorems say of such a run.
shows : (es : List Event) → meets es ≡ true → Sent (read_line (sout_of layouts from es)) (accepted_in layouts from es)
unfolding meets
shows es h =
    in_order layouts layouts_fit true Ours (replicate 512 0) (replicate 256 0) zeros es
    (are_premises layouts from es h)

shows_all : (es : List Event) → meets es ≡ true → sends_all es ≡ true
    → (read_line (sout_of layouts from es)).finished ≡ accepted_in layouts from es
unfolding meets sends_all
shows_all es h d =
    all_sent_lem layouts layouts_fit true Ours (replicate 512 0) (replicate 256 0) zeros es
    (are_premises layouts from es h) (is_all_sent _ d)

-- Two call-ups that land together: FWD_WR_CRC of one word, then of two, before a bit is sent.
pub together : List Event
together = opening ++ (frame (0x2000 ∷ 0xAAF0 ∷ []) ++ (frame (0x2001 ∷ 0x1234 ∷ 0x5678 ∷ []) ++ ticks 89))

pub together_shows : (read_line (sout_of layouts from together)).finished ≡ (0xAAF0 ∷ []) ∷ (0x1234 ∷ 0x5678 ∷ []) ∷ []
unfolding meets sends_all together
together_shows = shows_all together refl refl ∙ refl

-- Host words, a clock reading and 0s on SIN between the bits of the first command's word.
pub amid : List Event
amid =
    opening
    ++ (frame (0x2000 ∷ 0xAAF0 ∷ [])
    ++ (ticks 5
    ++ (Word 0x2001 ∷ Tick true ∷ Word 0x1234 ∷ Tick false ∷ ClockReading 3 ∷ Tick false ∷ Word 0x5678 ∷ Tick true
    ∷ Word (crc_of (0x2001 ∷ 0x1234 ∷ 0x5678 ∷ [])) ∷ Tick true ∷ Release ∷ ticks 79)))

pub amid_shows : (read_line (sout_of layouts from amid)).finished ≡ (0xAAF0 ∷ []) ∷ (0x1234 ∷ 0x5678 ∷ []) ∷ []
unfolding meets sends_all amid
amid_shows = shows_all amid refl refl ∙ refl

-- TXFFLVL written 0, then FWD_WR of two words: released at the first, and begun before the second comes.
pub early : List Event
early = opening ++ (frame (0xB003 ∷ 0x0000 ∷ []) ++ (Word 0x3001 ∷ Word 0x1111 ∷ ticks 10))

pub late : List Event
late = Word 0x2222 ∷ ticks 8 ++ (Word (crc_of (0x3001 ∷ 0x1111 ∷ 0x2222 ∷ [])) ∷ Release ∷ ticks 35)

pub early_accepted : accepted_in layouts from early ≡ (0x1111 ∷ []) ∷ []
unfolding meets early
early_accepted = refl

early_meets : meets early ≡ true
unfolding meets early
early_meets = refl

pub early_in_order : Sent (read_line (sout_of layouts from early)) ((0x1111 ∷ []) ∷ [])
early_in_order = subst (Sent (read_line (sout_of layouts from early))) early_accepted (shows early early_meets)

pub early_shows : (read_line (sout_of layouts from (early ++ late))).finished ≡ (0x1111 ∷ 0x2222 ∷ []) ∷ []
unfolding meets sends_all early late
early_shows = shows_all (early ++ late) refl refl ∙ refl

-- A wrong CRC word takes two words back; a place of one END alone goes before a command of one word and two extra ENDs.
pub mended : List Event
mended =
    opening
    ++ (Word 0x2001 ∷ Word 0x1111 ∷ Word 0x2222 ∷ Word 0x0000 ∷ Release
    ∷ (frame (0x5020 ∷ []) ++ (frame (0x4041 ∷ 0xFFFF ∷ []) ++ ticks 90)))

pub mended_shows : (read_line (sout_of layouts from mended)).finished ≡ (0xFFFF ∷ []) ∷ []
unfolding meets sends_all mended
mended_shows = shows_all mended refl refl ∙ refl

-- A frame cut short is within the premises: FWD_WR_CRC of two words, released after one, which is taken back.
pub cut_off : List Event
cut_off = opening ++ (Word 0x2001 ∷ Word 0x1111 ∷ Release ∷ (frame (0x2000 ∷ 0xAAF0 ∷ []) ++ ticks 36))

pub cut_off_shows : (read_line (sout_of layouts from cut_off)).finished ≡ (0xAAF0 ∷ []) ∷ []
unfolding meets sends_all cut_off cut cut_deed
cut_off_shows = shows_all cut_off refl refl ∙ refl

-- A soft reset at the start, and a transmit clear once all is sent, whose END comes before the next command: neither loses anything.
pub afresh : List Event
afresh =
    frame (0xE000 ∷ [])
    ++ (opening
    ++ (frame (0x2000 ∷ 0xAAF0 ∷ []) ++ (ticks 36 ++ (frame (0xB003 ∷ 0x81FF ∷ []) ++ (frame (0x2000 ∷ 0x1234 ∷ []) ++ ticks 54)))))

pub afresh_shows : (read_line (sout_of layouts from afresh)).finished ≡ (0xAAF0 ∷ []) ∷ (0x1234 ∷ []) ∷ []
unfolding meets sends_all afresh reset_closed owing soft_reset
afresh_shows = shows_all afresh refl refl ∙ refl

-- A second power-up once all is sent: what was accepted before it was sent before it.
pub twice : List Event
twice = opening ++ (frame (0x2000 ∷ 0xAAF0 ∷ []) ++ (ticks 36 ++ (Power true Ours ∷ (opening ++ (frame (0x2000 ∷ 0x1234 ∷ []) ++ ticks 36)))))

pub twice_shows : (read_line (sout_of layouts from twice)).finished ≡ (0xAAF0 ∷ []) ∷ (0x1234 ∷ []) ∷ []
unfolding meets sends_all twice
twice_shows = shows_all twice refl refl ∙ refl

-- Scripts that begin with a power event. With good OTP:
pub good_script : (read_line (sout_of layouts from (Power true Ours ∷ together))).finished ≡ (0xAAF0 ∷ []) ∷ (0x1234 ∷ 0x5678 ∷ []) ∷ []
unfolding meets sends_all together
good_script =
    (demand_3_script true Ours (replicate 512 0) (replicate 256 0) zeros together (are_premises layouts from together refl)).all_sent
    (is_all_sent _ refl) ∙ refl

-- With bad OTP the bridge stays in INIT: what is accepted waits.
pub kept_back : List Event
kept_back = frame (0x2000 ∷ 0xAAF0 ∷ []) ++ ticks 40

unfoldable meets_bad : List Event → Bool
unfolding meets bad_control power_up_bad_in
meets_bad es = premises layouts (power_on false Ours (replicate 512 0) (replicate 256 0)) es

kept_back_accepted : accepted_in layouts from (Power false Ours ∷ kept_back) ≡ (0xAAF0 ∷ []) ∷ []
unfolding meets_bad kept_back
kept_back_accepted = refl

kept_back_meets : meets_bad kept_back ≡ true
unfolding meets_bad kept_back
kept_back_meets = refl

pub bad_script_lem : Sent (read_line (sout_of layouts from (Power false Ours ∷ kept_back))) ((0xAAF0 ∷ []) ∷ [])
unfolding meets_bad
bad_script_lem =
    subst (Sent (read_line (sout_of layouts from (Power false Ours ∷ kept_back)))) kept_back_accepted
    (demand_3_script false Ours (replicate 512 0) (replicate 256 0) zeros kept_back (are_premises layouts _ kept_back kept_back_meets)).in_order
