-- The two stores as rings (01 What the bridge is, "Both stores are rings"). Assumes nothing.
use Rattle.std.specs.Prelude.{List, ℕ, ◌+◌, ◌-◌, ◌%◌, set, get_or, Option, None, Some}
use Rattle.state.specs.declared.Ring.{Ring}

-- "(TX 512, RX 256 (ours))"
abbrev pub tx_size : ℕ
tx_size = 512

abbrev pub rx_size : ℕ
rx_size = 256

-- "A stored word goes to cell (head + count) mod size"
abbrev pub cell_of : ℕ → Ring → ℕ
cell_of size r = (r.head + r.count) % size

abbrev pub pushed : Ring → Ring
pushed r = record { head = r.head; count = r.count + 1 }

-- "Reading moves head on."
abbrev pub popped : ℕ → Ring → Ring
popped size r = record { head = (r.head + 1) % size; count = r.count - 1 }

-- "Clearing sets count to 0"; takings-back lower the count only
abbrev pub taken_back : ℕ → Ring → Ring
taken_back n r = record { head = r.head; count = r.count - n }

abbrev pub emptied : Ring → Ring
emptied r = record { head = r.head; count = 0 }

abbrev pub oldest : List ℕ → Ring → ℕ
oldest cells r = get_or cells r.head 0

-- what an event writes of a store: "no other cell is ever written"
unfoldable pub written : ℕ → List ℕ → Ring → Option ℕ → List ℕ
written size cells r None = cells
written size cells r (Some w) = set cells (cell_of size r) w

unfoldable pub ring_after : Ring → Option ℕ → Ring
ring_after r None = r
ring_after r (Some w) = pushed r
