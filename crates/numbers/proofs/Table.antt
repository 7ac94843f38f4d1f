-- The P rows of 01 Numbers on both sides: what the definitions give is what 01 says.
use mathlib.Core.Path.{◌≡◌, refl}
use Rattle.command.specs.Layouts.{start_by}
use Rattle.registers.specs.Spictrl.{is_xmodem_in}
use Rattle.base.specs.Bits.{val, odd, bit, flag, high_first}
use Rattle.base.specs.Pick.{pick}
use Rattle.crc16.specs.Crc.{shift, crc_bit, crc_bits, crc_word, crc_from, crc_of}
use Rattle.command.specs.Layout.{write, spans, register_write, soft_reset, rows, by_number, fields_of, decode_by}
use Rattle.registers.specs.Raising.{raised}
use Rattle.registers.specs.Registers.{blocking, err, status_of, power_up_control, table_of, reset_regs, cleared, power_up_flags, read_of}
use Rattle.registers.specs.Writing.{mode_after, write_status, write_masked, write_of}
use Rattle.line.specs.Format.{check_bit, word_bit, piece_bit}
use Rattle.line.specs.Reader.{run_on, shift_in, at_check, in_group, hear}
use Rattle.state.specs.Frame.{mine_of, owed_by, to_come, collect_sound, reply_sound, phase_sound}
use Rattle.state.specs.Power.{bad_control, power_up_in, power_up_bad_in}
use Rattle.state.specs.Queue.{no_place, new_place, waiting, words_of, moved, freed, first_unread, claimed, returned, places_of, places_in, lacks}
use Rattle.state.specs.Rings.{written, ring_after}
use Rattle.state.specs.Sending.{stored, done}
use Rattle.place_rules.specs.Places.{role_sound, slot_sound, slots_below}
use Rattle.line_rules.specs.Line.{piece_sound, ear_sound, marks_sound, end_sound}
use Rattle.frame_rules.specs.Frames.{is_unmarked}
use Rattle.next.specs.Next.{choose, bit_sent}
use Rattle.sender.specs.Sender.{word_sent, queue_sent, sender_after, advanced, finished, sent_by, tick_sender, place_sent, command_sent}
use Rattle.reader.specs.Reader.{word_read, end_read, word_taken, at_end, ended, taken_by, tick_reader, began}
use Rattle.forwards.specs.Forward.{asks_store, guard, mine_after, enqueues, clears, forwarded, forward_word, forward_begun, faulted}
use Rattle.host.specs.Frames.{opened, data_word, planned_in, planned}
use Rattle.release.specs.Release.{released_in}
use Rattle.writes.specs.Writes.{is_quiet, is_transmit_clear, is_receive_clear, is_refused, with_write, register_word}
use Rattle.closing.specs.Closing.{wrong_crc, forward_closed, crc_due, registers_closed}
use Rattle.plan.specs.Plan.{cleared_away, received, settled, concluded, performed}
use Rattle.events.specs.Events.{powered, reacted}
use Rattle.ticks.specs.Ticks.{blocked_in, starved_flags, flags_sent, phase_after, control_ticked, tick_note, tick_ends, tick_hears, ticked}
use Rattle.events.specs.Turn.{turned, turn}
use Rattle.bridge.specs.Step.{step}
use Rattle.drain.specs.Drain.{run_of, drain}
use Rattle.numbers.specs.Numbers.{then, after, power_on, frame, note_in, register_in, status_after, once_cleared, once_forced, queued, ticks_of, own_bit, is_end, ends_next, end_from, end_tick_of, table, given, said}

pub rows_hold : given table ≡ said table
unfolding read_of val odd bit flag high_first pick shift crc_bit crc_bits crc_word crc_from crc_of write register_write soft_reset spans rows by_number decode_by fields_of raised blocking err status_of power_up_control table_of reset_regs cleared power_up_flags mode_after write_status write_masked write_of check_bit word_bit piece_bit run_on shift_in at_check in_group hear mine_of owed_by to_come collect_sound reply_sound phase_sound bad_control power_up_in power_up_bad_in no_place new_place waiting words_of moved freed first_unread claimed returned written ring_after stored done role_sound slot_sound slots_below end_sound piece_sound ear_sound marks_sound is_unmarked choose bit_sent word_sent queue_sent sender_after advanced finished sent_by tick_sender place_sent command_sent word_read end_read word_taken at_end ended taken_by tick_reader began asks_store guard mine_after enqueues clears forwarded forward_word forward_begun faulted opened is_quiet is_transmit_clear is_receive_clear is_refused with_write register_word data_word wrong_crc forward_closed crc_due planned_in planned released_in registers_closed cleared_away received settled concluded start_by is_xmodem_in performed powered blocked_in starved_flags flags_sent phase_after control_ticked tick_note tick_ends tick_hears ticked reacted turned turn step run_of drain then after power_on frame note_in register_in status_after once_cleared once_forced queued ticks_of own_bit is_end ends_next end_from end_tick_of table given said places_of places_in lacks
rows_hold = refl
