use borrow.Author.Rules.{rules}
use Rattle.frame_rules.proofs.Laws.{to_due}
use Rattle.state.specs.Frame.{to_come}
use Rattle.frame_rules.proofs.to_come.Statement.{statement}
use Rattle.frame_rules.proofs.to_come.Tie as tie

pub to_come_spec : {M : Type 1} → statement M
unfolding to_come
to_come_spec =
    tie.close
    (tie.spec (λ c. search rules) (λ c. search rules) (λ c κs. search rules) (λ c. search rules) (λ c. search rules)
    (λ c. search (rules, to_due)) (λ c. search (rules, to_due)) (λ c. search (rules, to_due)) (λ c. search (rules, to_due)))
