-- `of_open` meets its contract: an arm knows its variant (`to_open`).
use borrow.Author.Rules.{rules}
use Rattle.parts.proofs.Laws.{to_open}
use Rattle.parts.specs.Variants.{open_parts}
use Rattle.parts.proofs.of_open.Statement.{statement}
use Rattle.parts.proofs.of_open.Tie as tie

pub of_open_spec : {M : Type 1} → statement M
unfolding open_parts
of_open_spec =
    tie.close
    (tie.spec (λ c. search rules) (λ c κs. search rules) (λ c. search rules) (λ c κs. search rules) (λ c. search rules) (λ c κs. search rules)
    (λ c. search rules) (λ c κs. search rules) (λ c. search (rules, to_open)) (λ c. search (rules, to_open)) (λ c. search (rules, to_open))
    (λ c. search (rules, to_open)))
