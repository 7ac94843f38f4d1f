-- `of_ear` meets its contract: an arm knows its variant (`to_ear`).
use borrow.Author.Rules.{rules}
use Rattle.parts.proofs.Laws.{to_ear}
use Rattle.parts.proofs.of_ear.Statement.{statement}
use Rattle.parts.proofs.of_ear.Tie as tie

pub of_ear_spec : {M : Type 1} → statement M
of_ear_spec =
    tie.close
    (tie.spec (λ c. search rules) (λ c κs. search rules) (λ c. search rules) (λ c κs. search rules) (λ c. search rules) (λ c κs. search rules)
    (λ c. search (rules, to_ear)) (λ c. search (rules, to_ear)) (λ c. search (rules, to_ear)))
