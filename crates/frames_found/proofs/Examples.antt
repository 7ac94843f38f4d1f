-- Numbers: frames of 01, 02 and 001, and what is none.
use Rattle.std.specs.Prelude.{None, Some, Ok, Err}
use mathlib.Core.Path.{◌≡◌, refl}
use mathlib.Core.Bool.{true, false}
use mathlib.Core.List.{List, [], ◌∷◌}
use Prim.Native.Nat.{ℕ}
use Rattle.base.specs.Bits.{val, odd, bit, high_first}
use Rattle.base.specs.Pick.{pick}
use Rattle.layout.specs.declared.Layout.{Layout}
use Rattle.layout.specs.declared.Layout.TheVariants.{Ours, Makers}
use Rattle.crc16.specs.Crc.{start, shift, crc_bit, crc_bits, crc_word, crc_from}
use Rattle.command.specs.Layout.{fields_of, rows, by_number, register_read, soft_reset, spans, decode_by}
use Rattle.command.specs.Layouts.{start_xmodem}
use Rattle.command.specs.declared.Command.TheVariants.{Malformed, Forward, RegisterRead, SoftReset}
use Rattle.state.specs.Power.{power_up_in}
use Rattle.rules.proofs.Facts.{power_up_sound}
use Rattle.events.specs.Events.{powered}
use Rattle.bridge.specs.Runs.{RightStores, power_on}
use Rattle.frames.specs.Answers.{is_answer, due_of, told_by, told_of}
use Rattle.frames.specs.Frames.{frame_of, out, written_of}
use Rattle.frames.specs.Orders.{within, command_word}
use Rattle.frames.specs.declared.Order.TheVariants.{FwdWrCrc, FwdWrEndCrc, FwdWrEnd, DataRdCrc, RegRdCrc, SoftResetCrc}
use Rattle.frames.specs.declared.Told.TheVariants.{Status, Data}
use Rattle.frames.specs.declared.WriteError.TheVariants.{OutsideLimits, BufferShort}
use Rattle.frames_found.specs.Found.{Awaits}
use Rattle.frames_found.specs.Frames.{is_command}

-- VSYNC (01 Numbers: the CRC of 0x2000, 0xAAF0 is 0xAE24)
vsync : frame_of Ours start FwdWrCrc (0xAAF0 ∷ []) ≡ 0x2000 ∷ 0xAAF0 ∷ 0xAE24 ∷ []
unfolding crc_from crc_word crc_bits crc_bit shift high_first bit odd val
vsync = refl

-- in a buffer of four cells, three, two; and with no words, whatever the buffer
with_room : written_of Ours start FwdWrCrc (0xAAF0 ∷ []) (1 ∷ 2 ∷ 3 ∷ 4 ∷ []) ≡ out (Ok 3) (0x2000 ∷ 0xAAF0 ∷ 0xAE24 ∷ 4 ∷ [])
unfolding written_of pick crc_from crc_word crc_bits crc_bit shift high_first bit odd val
with_room = refl

just_short : written_of Ours start FwdWrCrc (0xAAF0 ∷ []) (1 ∷ 2 ∷ []) ≡ out (Err BufferShort) (1 ∷ 2 ∷ [])
unfolding written_of pick
just_short = refl

no_words_first : written_of Ours start FwdWrCrc [] [] ≡ out (Err OutsideLimits) []
unfolding written_of pick
no_words_first = refl

-- 0x4000 and 0x5000, no words and no ENDs, are frames; 0xFFFF is none
nothing_crc : within (FwdWrEndCrc 0) 0 ≡ true
nothing_crc = refl

nothing : within (FwdWrEnd 0) 0 ≡ true
nothing = refl

nothing_decoded : decode_by Ours 0x4000 ≡ Forward true 0 0 false
unfolding decode_by by_number rows fields_of pick
nothing_decoded = refl

filler : (k : Layout) → is_command (decode_by k 0xFFFF) ≡ false
unfolding decode_by pick
filler k = refl

-- The maker's command words (001 table 7-2). FWD_WR_END of two words and three ENDs: data_length 11..7, extra_end_bytes 6..0
makers_ends : command_word Makers (FwdWrEnd 3) 2 ≡ 0x5103
makers_ends = refl

makers_ends_decoded : decode_by Makers 0x5103 ≡ Forward false 2 3 false
unfolding decode_by by_number rows fields_of pick
makers_ends_decoded = refl

-- REG_RD_CRC of two registers from 3: address 9..6, data_length 3..0; one of the zero bits 5..4 turned is malformed
makers_span : command_word Makers (RegRdCrc 3 2) 0 ≡ 0xC0C1
makers_span = refl

makers_span_decoded : decode_by Makers 0xC0C1 ≡ RegisterRead true 3 2
unfolding decode_by by_number rows register_read spans fields_of pick
makers_span_decoded = refl

makers_zeros : decode_by Makers 0xC0D1 ≡ Malformed
unfolding decode_by by_number rows register_read spans fields_of pick
makers_zeros = refl

-- SOFTRESET_CRC is 0xE1E1 there and 0xE000 in ours, and each is malformed in the other
makers_reset : decode_by Makers 0xE1E1 ≡ SoftReset
unfolding decode_by by_number rows soft_reset fields_of pick
makers_reset = refl

ours_no_reset : decode_by Ours 0xE1E1 ≡ Malformed
unfolding decode_by by_number rows soft_reset fields_of pick
ours_no_reset = refl

makers_no_reset : decode_by Makers 0xE000 ≡ Malformed
unfolding decode_by by_number rows soft_reset fields_of pick
makers_no_reset = refl

-- its frame, by CCITT-FALSE and by XMODEM: the sheet's own example (001 7.5.4)
reset_ccitt : frame_of Makers start SoftResetCrc [] ≡ 0xE1E1 ∷ 0xD383 ∷ []
unfolding crc_from crc_word crc_bits crc_bit shift high_first bit odd val
reset_ccitt = refl

reset_xmodem : frame_of Makers start_xmodem SoftResetCrc [] ≡ 0xE1E1 ∷ 0xCE8C ∷ []
unfolding crc_from crc_word crc_bits crc_bit shift high_first bit odd val
reset_xmodem = refl

-- STATUS at power-up and its CRC (docs/HOST-GUIDE.md 2); the same words are data of a read of one word; one bit turned is neither
status : told_of start FwdWrCrc (0x0400 ∷ 0xD1CB ∷ []) ≡ Some (Status 0x0400)
unfolding told_of due_of told_by is_answer pick crc_from crc_word crc_bits crc_bit shift high_first bit odd val
status = refl

one_word : told_of start (RegRdCrc 7 1) (0x0400 ∷ 0xD1CB ∷ []) ≡ Some (Data 1)
unfolding told_of due_of told_by is_answer pick crc_from crc_word crc_bits crc_bit shift high_first bit odd val
one_word = refl

turned : told_of start FwdWrCrc (0x0401 ∷ 0xD1CB ∷ []) ≡ None
unfolding told_of due_of told_by is_answer pick crc_from crc_word crc_bits crc_bit shift high_first bit odd val
turned = refl

-- an order outside the limits has no answer
too_many : told_of start (DataRdCrc 257) (0x0400 ∷ 0xD1CB ∷ []) ≡ None
unfolding told_of due_of told_by pick
too_many = refl

-- A bridge awaits a frame from power-up on, in either layout, with any words in its stores: the premise of `found` and `reads_back` can be had.
from_power_up : (k : Layout) (tx rx : List ℕ) → RightStores tx rx → Awaits (power_on true k tx rx)
unfolding power_on powered pick power_up_in
from_power_up k tx rx r = record { stores = r; rules = power_up_sound k; eight = refl; idle = refl }
