use borrow.Author.Rules.{rules}
use Rattle.frame_rules.proofs.Laws.{owes, owes_none, owes_not}
use Rattle.frame_rules.proofs.owed_by.Statement.{statement}
use Rattle.frame_rules.proofs.owed_by.Tie as tie

pub owed_by_spec : {M : Type 1} → statement M
owed_by_spec =
    tie.close
    (tie.spec (λ c κs. search rules) (λ c. search rules) (λ c. search (rules, owes)) (λ c. search (rules, owes_none))
    (λ c. search (rules, owes_not)))
