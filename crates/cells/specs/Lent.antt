-- What lent cells stand for: the record whose cells they are; and where they are no record's, one that breaks the record rules (01 Notes, 2), so that
-- every call refuses it. Ours. Assumes nothing.
use Rattle.std.specs.Prelude.{◌≡◌, Bool, true, ◌&&◌, List, ℕ, zero, suc, eqb}
use Rattle.base.specs.Bits.{all_ones}
use Rattle.base.specs.Pick.{pick}
use Rattle.state.specs.Power.{power_up}
use Rattle.state.specs.declared.Bridge.{Bridge}
use Rattle.cells.specs.Cells.{at, cells_of, record_of}

abbrev pub cell_count : ℕ
cell_count = 23

-- the first so many are the same
unfoldable pub same_up_to : ℕ → List ℕ → List ℕ → Bool
same_up_to zero c d = true
same_up_to (suc n) c d = same_up_to n c d && eqb (at c n) (at d n)

-- they are the cells of the record that they give
unfoldable pub is_record : List ℕ → Bool
is_record cells = same_up_to cell_count cells (cells_of (record_of cells))

-- more words in TX than it has cells
abbrev pub broken : Bridge
broken = record {
  control = power_up.control;
  sending = record { tx = record { head = power_up.sending.tx.head; count = all_ones }; queue = power_up.sending.queue; sender = power_up.sending.sender };
  receiving = power_up.receiving;
  frame = power_up.frame;
  clock = power_up.clock;
}

unfoldable pub lent : List ℕ → Bridge
lent cells = pick (is_record cells) (record_of cells) broken

-- a record's cells, which give it back
pub record Image (cells : List ℕ) (b : Bridge) : Type 0 where
  pub is : cells ≡ cells_of b
  pub back : record_of cells ≡ b
