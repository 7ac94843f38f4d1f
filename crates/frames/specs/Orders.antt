-- What a host can order and its command word (02 item 1; 01 Frames, "Layout (ours), command number in bits 15..12"; 02 item 7): the rows of 01's
-- table, and of the maker's, read from the host's side. Assumes nothing.
use Rattle.std.specs.Prelude.{Bool, true, false, ◌&&◌, List, [], ◌∷◌, ℕ, ◌+◌, ◌-◌, ◌*◌, ltb, leb, eqb, get_or, Option, None, Some}
use Rattle.base.specs.Pick.{pick}
use Rattle.layout.specs.declared.Layout.{Layout}
use Rattle.layout.specs.declared.Layout.TheVariants.{Ours, Makers}
use Rattle.command.specs.Layout.{most_checked, most_words, most_ends, most_read, registers_end, reset_bits}
use Rattle.command.specs.declared.Command.{Command}
use Rattle.command.specs.declared.Command.TheVariants.{Forward, DataRead, RegisterWrite, RegisterRead, SoftReset}
use Rattle.frames.specs.declared.Order.{Order}
use Rattle.frames.specs.declared.Order.TheVariants.{FwdWrCrc, FwdWr, FwdWrEndCrc, FwdWrEnd, FwdRdEndCrc, FwdRdEnd, DataRdCrc, DataRd, RegWrCrc, RegWr, RegRdCrc, RegRd, SoftResetCrc}

-- "0 to 31" words beside extra ENDs, and "to 32" where they are read back. 01 Frames, rows 4 and 6
abbrev pub most_beside_ends : ℕ
most_beside_ends = 31

abbrev pub most_read_back : ℕ
most_read_back = 32

-- "No."
abbrev pub number_of : Order → ℕ
number_of FwdWrCrc = 2
number_of FwdWr = 3
number_of (FwdWrEndCrc ends) = 4
number_of (FwdWrEnd ends) = 5
number_of (FwdRdEndCrc ends) = 6
number_of (FwdRdEnd ends) = 7
number_of (DataRdCrc count) = 8
number_of (DataRd count) = 9
number_of (RegWrCrc address) = 10
number_of (RegWr address) = 11
number_of (RegRdCrc address count) = 12
number_of (RegRd address count) = 13
number_of SoftResetCrc = 14

-- "address + count at most" 12 (02 item 4)
abbrev pub spans : ℕ → ℕ → Bool
spans address count = leb 1 count && leb (address + count) registers_end

-- the limits of the row's own fields
abbrev pub fields_within : Order → Bool
fields_within FwdWrCrc = true
fields_within FwdWr = true
fields_within (FwdWrEndCrc ends) = leb ends most_ends
fields_within (FwdWrEnd ends) = leb ends most_ends
fields_within (FwdRdEndCrc ends) = leb ends most_ends
fields_within (FwdRdEnd ends) = leb ends most_ends
fields_within (DataRdCrc count) = leb 1 count && leb count most_read
fields_within (DataRd count) = leb 1 count && leb count most_read
fields_within (RegWrCrc address) = ltb address registers_end
fields_within (RegWr address) = ltb address registers_end
fields_within (RegRdCrc address count) = spans address count
fields_within (RegRd address count) = spans address count
fields_within SoftResetCrc = true

-- the number of data words that the row takes: "Reads and the reset carry no data words"
abbrev pub words_within : Order → ℕ → Bool
words_within FwdWrCrc n = leb 1 n && leb n most_checked
words_within FwdWr n = leb 1 n && leb n most_words
words_within (FwdWrEndCrc ends) n = leb n most_beside_ends
words_within (FwdWrEnd ends) n = leb n most_beside_ends
words_within (FwdRdEndCrc ends) n = leb 1 n && leb n most_read_back
words_within (FwdRdEnd ends) n = leb 1 n && leb n most_read_back
words_within (DataRdCrc count) n = eqb n 0
words_within (DataRd count) n = eqb n 0
words_within (RegWrCrc address) n = spans address n
words_within (RegWr address) n = spans address n
words_within (RegRdCrc address count) n = eqb n 0
words_within (RegRd address count) n = eqb n 0
words_within SoftResetCrc n = eqb n 0

-- "within 01's limits", with n data words
abbrev pub within : Order → ℕ → Bool
within o n = fields_within o && words_within o n

-- The fields of the low twelve bits, put where a layout has them.

-- 4 to 7. Ours: "bits 4..0 words .., bits 11..5 extra ENDs" (01 Frames). The maker's: data_length 11..7, extra_end_bytes 6..0 (001 table 7-2)
abbrev pub ends_bits : Layout → ℕ → ℕ → ℕ
ends_bits Ours ends words = ends * 32 + words
ends_bits Makers ends words = words * 128 + ends

-- 10 to 13. Ours: "bits 11..8 count minus 1; .. bits 3..0 address" (01 Frames). The maker's: address 9..6, data_length 3..0 (001 table 7-2)
abbrev pub span_bits : Layout → ℕ → ℕ → ℕ
span_bits Ours address count = (count - 1) * 256 + address
span_bits Makers address count = address * 64 + (count - 1)

-- 14. Ours: "0" (01 Frames). The maker's: 0x1E1 (001 table 7-2)
abbrev pub fixed_bits : Layout → ℕ
fixed_bits Ours = 0
fixed_bits Makers = reset_bits

-- "Low 12 bits", with n data words (01 Frames; 001 table 7-2; 02 item 7)
abbrev pub low_bits : Layout → Order → ℕ → ℕ
low_bits k FwdWrCrc n = n - 1
low_bits k FwdWr n = n - 1
low_bits k (FwdWrEndCrc ends) n = ends_bits k ends n
low_bits k (FwdWrEnd ends) n = ends_bits k ends n
low_bits k (FwdRdEndCrc ends) n = ends_bits k ends (n - 1)
low_bits k (FwdRdEnd ends) n = ends_bits k ends (n - 1)
low_bits k (DataRdCrc count) n = count - 1
low_bits k (DataRd count) n = count - 1
low_bits k (RegWrCrc address) n = span_bits k address n
low_bits k (RegWr address) n = span_bits k address n
low_bits k (RegRdCrc address count) n = span_bits k address count
low_bits k (RegRd address count) n = span_bits k address count
low_bits k SoftResetCrc n = fixed_bits k

-- "command number in bits 15..12" (01 Frames); CMD[15:12] (001 table 7-2)
abbrev pub command_word : Layout → Order → ℕ → ℕ
command_word k o n = number_of o * 4096 + low_bits k o n

-- the command that the bridge is to find (`command`'s own type)
abbrev pub meant : Order → ℕ → Command
meant FwdWrCrc n = Forward true n 0 false
meant FwdWr n = Forward false n 0 false
meant (FwdWrEndCrc ends) n = Forward true n ends false
meant (FwdWrEnd ends) n = Forward false n ends false
meant (FwdRdEndCrc ends) n = Forward true n ends true
meant (FwdRdEnd ends) n = Forward false n ends true
meant (DataRdCrc count) n = DataRead true count
meant (DataRd count) n = DataRead false count
meant (RegWrCrc address) n = RegisterWrite true address n
meant (RegWr address) n = RegisterWrite false address n
meant (RegRdCrc address count) n = RegisterRead true address count
meant (RegRd address count) n = RegisterRead false address count
meant SoftResetCrc n = SoftReset

-- the command word, where the order is within its limits
unfoldable pub head_of : Layout → Order → ℕ → Option ℕ
head_of k o n = pick (within o n) (Some (command_word k o n)) None

-- An order as four numbers: that of its command, extra ENDs, address, count. A field that the row does not have is 0, so that one order is one row of
-- numbers (ours: a number that would be ignored is a mistake, and is told).

abbrev pub known : Bool → Order → Option Order
known is o = pick is (Some o) None

unfoldable pub rows : ℕ → ℕ → ℕ → List (Option Order)
rows ends address count =
    None
    ∷ None
    ∷ known (eqb ends 0 && eqb address 0 && eqb count 0) FwdWrCrc
    ∷ known (eqb ends 0 && eqb address 0 && eqb count 0) FwdWr
    ∷ known (eqb address 0 && eqb count 0) (FwdWrEndCrc ends)
    ∷ known (eqb address 0 && eqb count 0) (FwdWrEnd ends)
    ∷ known (eqb address 0 && eqb count 0) (FwdRdEndCrc ends)
    ∷ known (eqb address 0 && eqb count 0) (FwdRdEnd ends)
    ∷ known (eqb ends 0 && eqb address 0) (DataRdCrc count)
    ∷ known (eqb ends 0 && eqb address 0) (DataRd count)
    ∷ known (eqb ends 0 && eqb count 0) (RegWrCrc address)
    ∷ known (eqb ends 0 && eqb count 0) (RegWr address)
    ∷ known (eqb ends 0) (RegRdCrc address count)
    ∷ known (eqb ends 0) (RegRd address count)
    ∷ known (eqb ends 0 && eqb address 0 && eqb count 0) SoftResetCrc
    ∷ []

unfoldable pub order_of : ℕ → ℕ → ℕ → ℕ → Option Order
order_of number ends address count = get_or (rows ends address count) number None
