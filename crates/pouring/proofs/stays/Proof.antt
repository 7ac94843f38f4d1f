-- `pouring::stays` meets its contract.
use borrow.Author.Rules.{rules}
use Rattle.pouring.specs.Pour.{stays}
use Rattle.pouring.proofs.Cases.{to_stays}
use Rattle.pouring.proofs.stays.Statement.{statement}
use Rattle.pouring.proofs.stays.Tie as tie

pub stays_spec : {M : Type 1} → statement M
unfolding stays
stays_spec =
    tie.close
    (tie.spec (λ c. search rules) (λ c. search rules) (λ c. search rules) (λ c. search rules)
    (λ c. search (rules, to_stays)) (λ c. search (rules, to_stays)) (λ c. search (rules, to_stays)) (λ c. search (rules, to_stays)))
