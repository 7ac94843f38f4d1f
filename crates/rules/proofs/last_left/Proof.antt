use borrow.Author.Rules.{rules}
use Rattle.base.specs.Pick.{picks}
use Rattle.rules.proofs.Laws.{last_told}
use Rattle.rules.proofs.last_left.Statement.{statement}
use Rattle.rules.proofs.last_left.Tie as tie

pub last_left_spec : {M : Type 1} → statement M
last_left_spec =
    tie.close
    (tie.spec (λ c. search rules) (λ c κs. search rules) (λ c. search (rules, last_told)) (λ c. search (rules, picks)))
