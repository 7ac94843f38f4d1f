-- `pouring::poured` meets its contract.
use borrow.Author.Rules.{rules}
use Rattle.pouring.proofs.poured.Statement.{statement}
use Rattle.pouring.proofs.poured.Tie as tie

pub poured_spec : {M : Type 1} → statement M
poured_spec = tie.close (tie.spec (λ c κs. search rules) (λ c κs. search rules) (λ c κs. search rules) (λ c. cc))
