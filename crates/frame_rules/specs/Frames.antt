-- The record rules of registers, flags and frame (01 Notes, note 2; 02 items 4 and 7). docs/RECORD-RULES.md says what each is for. Assumes nothing.
use Rattle.std.specs.Prelude.{Bool, true, false, not, ◌&&◌, ◌||◌, ℕ, ltb, eqb}
use Rattle.base.specs.Pick.{pick}
use Rattle.layout.specs.declared.Layout.{Layout}
use Rattle.layout.specs.declared.Layout.TheVariants.{Ours, Makers}
use Rattle.registers.specs.Registers.{regs_sound, blocking}
use Rattle.registers.specs.declared.Control.{Control}
use Rattle.registers.specs.declared.Flags.{Flags}
use Rattle.registers.specs.declared.Mode.{Mode}
use Rattle.registers.specs.declared.Mode.TheVariants.{Normal, Init, Failsafe}
use Rattle.state.specs.Frame.{is_forward}
use Rattle.state.specs.declared.Phase.{Phase}
use Rattle.state.specs.declared.Phase.TheVariants.{Idle, Collecting, Answering, Discarding}

-- "Bad OTP stays in INIT", and nothing else is there
abbrev pub otp_sound : Mode → Bool → Bool
otp_sound Normal otp = not otp
otp_sound Init otp = otp
otp_sound Failsafe otp = not otp

-- "After each event DRDY is 1 if RX is empty, else 0 if its count exceeds RXFFLVL .."
abbrev pub drdy_sound : Bool → ℕ → ℕ → Bool
drdy_sound drdy level count = pick (eqb count 0) drdy (not (ltb level count && drdy))

-- "register 11, which reads 0 when the flag is down". 02 item 4
abbrev pub bad_word_sound : Flags → Bool
bad_word_sound f = f.check_bit || eqb f.bad_word 0

abbrev pub control_sound : Control → ℕ → Bool
control_sound c count =
    regs_sound c.regs && otp_sound c.mode c.flags.otp && drdy_sound c.drdy c.regs.rxfflvl count && bad_word_sound c.flags

-- a frame's algorithm is one of its layout's: "CRC (ours)" of 01 is one, the maker's are two (001 7.5.3). 02 item 7
abbrev pub algorithm_sound : Layout → Bool → Bool
algorithm_sound Ours xmodem = not xmodem
algorithm_sound Makers xmodem = true

-- an open forward that is not marked as blocked
unfoldable pub is_unmarked : Phase → Bool
is_unmarked Idle = false
is_unmarked (Collecting command got crc mine released blocked) = is_forward command && not blocked
is_unmarked (Answering reply crc) = false
is_unmarked Discarding = false

-- "while a blocking flag is or was up during this frame": with one up, an open forward is marked
abbrev pub flags_sound : Flags → Phase → Bool
flags_sound f p = not (blocking f && is_unmarked p)
