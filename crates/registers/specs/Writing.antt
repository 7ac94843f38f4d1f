-- What a write of each address does to registers, flags and device state (01 Registers). Assumes nothing.
use Rattle.std.specs.Prelude.{Bool, ◌&&◌, [], ◌∷◌, ℕ, ◌%◌, get_or}
use Rattle.std.specs.Int.Bits.{bit_and}
use Rattle.base.specs.Pick.{pick}
use Rattle.base.specs.Bits.{bit}
use Rattle.registers.specs.Registers.{row_of, cleared, is_normal, is_failsafe}
use Rattle.registers.specs.Raising.{raised}
use Rattle.registers.specs.declared.Flag.TheVariants.{RegWrite}
use Rattle.registers.specs.declared.Mode.{Mode}
use Rattle.registers.specs.declared.Mode.TheVariants.{Normal, Failsafe}
use Rattle.registers.specs.declared.Effect.{Effect}
use Rattle.registers.specs.declared.Effect.TheVariants.{Nothing, TransmitClear, ReceiveClear, Refused}
use Rattle.registers.specs.declared.Flags.{Flags}
use Rattle.registers.specs.declared.Regs.{Regs}
use Rattle.registers.specs.declared.Control.{Control}
use Rattle.registers.specs.declared.Written.{Written}

abbrev pub with_flags : Control → Flags → Control
with_flags c f = record { mode = c.mode; drdy = c.drdy; flags = f; regs = c.regs }

abbrev pub with_regs : Control → Regs → Control
with_regs c r = record { mode = c.mode; drdy = c.drdy; flags = c.flags; regs = r }

abbrev pub with_mode : Control → Mode → Control
with_mode c m = record { mode = m; drdy = c.drdy; flags = c.flags; regs = c.regs }

abbrev pub written : Control → Effect → Written
written c e = record { control = c; effect = e }

abbrev pub with_spictrl : Regs → ℕ → Regs
with_spictrl r v = record { layout = r.layout; spictrl = v; ccsictrl = r.ccsictrl; txfflvl = r.txfflvl; rxfflvl = r.rxfflvl; diagmask = r.diagmask }

abbrev pub with_ccsictrl : Regs → ℕ → Regs
with_ccsictrl r v = record { layout = r.layout; spictrl = r.spictrl; ccsictrl = v; txfflvl = r.txfflvl; rxfflvl = r.rxfflvl; diagmask = r.diagmask }

abbrev pub with_txfflvl : Regs → ℕ → Regs
with_txfflvl r v = record { layout = r.layout; spictrl = r.spictrl; ccsictrl = r.ccsictrl; txfflvl = v; rxfflvl = r.rxfflvl; diagmask = r.diagmask }

abbrev pub with_rxfflvl : Regs → ℕ → Regs
with_rxfflvl r v = record { layout = r.layout; spictrl = r.spictrl; ccsictrl = r.ccsictrl; txfflvl = r.txfflvl; rxfflvl = v; diagmask = r.diagmask }

abbrev pub with_diagmask : Regs → ℕ → Regs
with_diagmask r v = record { layout = r.layout; spictrl = r.spictrl; ccsictrl = r.ccsictrl; txfflvl = r.txfflvl; rxfflvl = r.rxfflvl; diagmask = v }

-- Note 10: "CCSICTRL write while sender or reader is busy": "REG_WRITE flag, that register unchanged"
unfoldable pub write_ccsictrl : Control → Bool → ℕ → Written
write_ccsictrl c busy v =
    pick busy (written (with_flags c (raised c.flags RegWrite)) Refused) (written (with_regs c (with_ccsictrl c.regs v)) Nothing)

-- "TXFFLVL: bits 8..0; bit 15 clears": the level is written also where bit 15 is 1, which reads 0
unfoldable pub write_txfflvl : Control → ℕ → Written
write_txfflvl c v = written (with_regs c (with_txfflvl c.regs (v % 32768))) (pick (bit 15 v) TransmitClear Nothing)

unfoldable pub write_rxfflvl : Control → ℕ → Written
write_rxfflvl c v = written (with_regs c (with_rxfflvl c.regs (v % 32768))) (pick (bit 15 v) ReceiveClear Nothing)

-- "Force acts only in NORMAL, exit only in FAILSAFE, both judged on the state before the write." So bad OTP stays in INIT.
unfoldable pub mode_after : Mode → ℕ → Mode
mode_after m v = pick (is_normal m && bit 2 v) Failsafe (pick (is_failsafe m && bit 0 v) Normal m)

-- "STATUS: bit 15 clears flags"; the state stays
unfoldable pub write_status : Control → ℕ → Written
write_status c v = pick (bit 15 v) (written (with_flags c (cleared c.flags)) Nothing) (written c Nothing)

-- a write whose bits the table lets through, by address
unfoldable pub write_masked : Control → Bool → ℕ → ℕ → Written
write_masked c busy address v =
    get_or
    (written c Nothing
    ∷ written (with_regs c (with_spictrl c.regs v)) Nothing
    ∷ write_ccsictrl c busy v
    ∷ write_txfflvl c v
    ∷ write_rxfflvl c v
    ∷ written (with_mode c (mode_after c.mode v)) Nothing
    ∷ written (with_regs c (with_diagmask c.regs v)) Nothing
    ∷ write_status c v
    ∷ [])
    address
    (written c Nothing)

-- "Bits that are not writable" are not written: the table's mask comes first
unfoldable pub write_of : Control → Bool → ℕ → ℕ → Written
write_of c busy address value = write_masked c busy address (bit_and value (row_of c.regs.layout address).writable)
