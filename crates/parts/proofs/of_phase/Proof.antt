-- `of_phase` meets its contract: an arm knows its variant (`to_phase`).
use borrow.Author.Rules.{rules}
use Rattle.parts.proofs.Laws.{to_phase}
use Rattle.parts.specs.Variants.{phase_parts}
use Rattle.parts.proofs.of_phase.Statement.{statement}
use Rattle.parts.proofs.of_phase.Tie as tie

pub of_phase_spec : {M : Type 1} → statement M
unfolding phase_parts
of_phase_spec =
    tie.close
    (tie.spec (λ c. search rules) (λ c κs. search rules) (λ c. search rules) (λ c κs. search rules) (λ c. search rules) (λ c κs. search rules)
    (λ c. search rules) (λ c κs. search rules) (λ c. search (rules, to_phase)) (λ c. search (rules, to_phase)) (λ c. search (rules, to_phase))
    (λ c. search (rules, to_phase)))
