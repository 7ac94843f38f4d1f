-- What a program in C gets (02 items 1 and 7; include/icelichen_frames.h): a number, and below 0 a refusal, minus the number that 02 gives it. Assumes
-- nothing.
use Rattle.std.specs.Prelude.{Bool, ◌&&◌, List, [], ◌∷◌, ℕ, ltb, ℤ, pos, negsuc, get_or, Option, None, Some, Result, Ok, Err}
use Rattle.base.specs.Bits.{word_end}
use Rattle.base.specs.Pick.{pick}
use Rattle.layout.specs.declared.Layout.{Layout}
use Rattle.layout.specs.declared.Layout.TheVariants.{Ours, Makers}
use Rattle.crc16.specs.Crc.{start}
use Rattle.command.specs.Layouts.{start_xmodem}
use Rattle.frames.specs.Answers.{told_of}
use Rattle.frames.specs.Frames.{written_of}
use Rattle.frames.specs.Orders.{order_of}
use Rattle.frames.specs.declared.Order.{Order}
use Rattle.frames.specs.declared.Told.{Told}
use Rattle.frames.specs.declared.Told.TheVariants.{Status, Data}
use Rattle.frames.specs.declared.WriteError.{WriteError}
use Rattle.frames.specs.declared.WriteError.TheVariants.{OutsideLimits, BufferShort}
use Rattle.icelichen_frames.specs.declared.Spoken.{Spoken}

-- "20 command outside 01's limits, or an answer of wrong length or CRC, 21 buffer too short": -20 and -21 (`negsuc n` is minus n + 1)
abbrev pub refusal20 : ℤ
refusal20 = negsuc 19

abbrev pub refusal21 : ℤ
refusal21 = negsuc 20

abbrev pub written_code : Result ℕ WriteError → ℤ
written_code (Ok words) = pos words
written_code (Err OutsideLimits) = refusal20
written_code (Err BufferShort) = refusal21

abbrev pub status_code : Option Told → ℤ
status_code (Some (Status value)) = pos value
status_code (Some (Data count)) = refusal20
status_code None = refusal20

abbrev pub data_code : Option Told → ℤ
data_code (Some (Status value)) = refusal20
data_code (Some (Data count)) = pos count
data_code None = refusal20

-- an order by four numbers, none of them cut: what has more than sixteen bits is no order's. ours
abbrev pub sixteen : ℕ → Bool
sixteen n = ltb n word_end

unfoldable pub order_by : ℕ → ℕ → ℕ → ℕ → Option Order
order_by command ends address count =
    pick (sixteen command && (sixteen ends && (sixteen address && sixteen count))) (order_of command ends address count) None

-- the number, and the buffer as it is left
pub record Coded : Type 0 where
  pub code : ℤ
  pub buffer : List ℕ

abbrev pub coded : ℤ → List ℕ → Coded
coded code buffer = record { code = code; buffer = buffer }

-- numbers that are no order's are outside 01's limits
unfoldable pub frame_for : Layout → ℕ → Option Order → List ℕ → List ℕ → Coded
frame_for k s None words buffer = coded refusal20 buffer
frame_for k s (Some o) words buffer = coded (written_code (written_of k s o words buffer).answer) (written_of k s o words buffer).buffer

unfoldable pub told_for : ℕ → Option Order → List ℕ → Option Told
told_for s None words = None
told_for s (Some o) words = told_of s o words

-- 0: our words; 1: the maker's, with "the default algorithm"; 2: the maker's, with CRC-16/XMODEM (02 item 7; 001 7.5.3). The numbers are ours
abbrev pub spoken : Layout → ℕ → Option Spoken
spoken k s = Some (record { layout = k; start = s })

abbrev pub spoken_words : List (Option Spoken)
spoken_words = spoken Ours start ∷ spoken Makers start ∷ spoken Makers start_xmodem ∷ []

unfoldable pub spoken_of : ℕ → Option Spoken
spoken_of n = get_or spoken_words n None

-- another number is no layout's, and refused as an order outside the limits is. ours
unfoldable pub frame_in : Option Spoken → Option Order → List ℕ → List ℕ → Coded
frame_in None named words buffer = coded refusal20 buffer
frame_in (Some w) named words buffer = frame_for w.layout w.start named words buffer

unfoldable pub told_in : Option Spoken → Option Order → List ℕ → Option Told
told_in None named words = None
told_in (Some w) named words = told_for w.start named words
