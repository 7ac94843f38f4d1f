-- `pouring::pours` meets its contract.
use borrow.Author.Rules.{rules}
use Rattle.base.specs.Pick.{picks}
use Rattle.pouring.specs.Pour.{pours}
use Rattle.pouring.proofs.pours.Statement.{statement}
use Rattle.pouring.proofs.pours.Tie as tie

pub pours_spec : {M : Type 1} → statement M
unfolding pours
pours_spec = tie.close (tie.spec (λ c. search rules) (λ c. search (rules, picks)) (λ c. search (rules, picks)))
