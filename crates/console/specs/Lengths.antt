-- What the contracts of `console`'s counts cite.
use Rattle.std.specs.Prelude.{◌≡◌, ℕ, ◌≤◌, List, length, take}

-- `&xs[..n]` is in bounds and has n bytes. The second part follows from the first, and spares a caller's `&buffer[..n]` a proof file.
abbrev pub IsPrefixLength : ℕ → List ℕ → Type 0
IsPrefixLength n xs = (n ≤ length xs) × (n ≡ length (take n xs))
