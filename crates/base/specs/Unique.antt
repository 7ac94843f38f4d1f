-- Where a contract says `r ≡ x` of its result r, two results that satisfy it are equal. So say those of all exported functions that are lent no
-- store; where stores are lent the equation is of a record, r and both stores in it. docs/PROMISES.md has which, and what inner functions say.
-- Assumes nothing.
use Rattle.std.specs.Prelude.{◌≡◌}
use Rattle.std.proofs.Common.{sym, ◌∙◌}

pub unique : {A : Type 0} (x r s : A) → r ≡ x → s ≡ x → r ≡ s
unique x r s p q = p ∙ sym q
