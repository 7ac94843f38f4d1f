-- `pouring::poured_phase` meets its contract.
use borrow.Author.Rules.{rules}
use Rattle.pouring.specs.Pour.{poured_phase}
use Rattle.pouring.proofs.Cases.{to_poured}
use Rattle.pouring.proofs.poured_phase.Statement.{statement}
use Rattle.pouring.proofs.poured_phase.Tie as tie

pub poured_phase_spec : {M : Type 1} → statement M
unfolding poured_phase
poured_phase_spec =
    tie.close
    (tie.spec (λ c. search rules) (λ c. search rules) (λ c. search rules) (λ c. search rules)
    (λ c. search (rules, to_poured)) (λ c. search (rules, to_poured)) (λ c. search (rules, to_poured)) (λ c. search (rules, to_poured)))
