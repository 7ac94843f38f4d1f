-- `phase` meets its contract.
use borrow.Author.Rules.{rules}
use Rattle.base.specs.Pick.{picks}
use Rattle.parts.specs.Variants.{phase_of}
use Rattle.parts.proofs.phase.Statement.{statement}
use Rattle.parts.proofs.phase.Tie as tie

pub phase_spec : {M : Type 1} → statement M
unfolding phase_of
phase_spec =
    tie.close
    (tie.spec (λ c. search (rules, picks)) (λ c κs. search rules) (λ c. search (rules, picks)) (λ c κs. search rules) (λ c. search (rules, picks))
    (λ c. search (rules, picks)))
