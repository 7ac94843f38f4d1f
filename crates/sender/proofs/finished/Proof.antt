use borrow.Author.Rules.{rules}
use Rattle.sender.proofs.Laws.{busy_last, to_ended, speaking_last, to_spoken, to_kept}
use Rattle.sender.proofs.finished.Statement.{statement}
use Rattle.sender.proofs.finished.Tie as tie

pub finished_spec : {M : Type 1} → statement M
finished_spec =
    tie.close
    (tie.spec
    (λ c κs. search rules)
    (λ c κs. search rules)
    (λ c κs. search rules)
    (λ c κs. search rules)
    (λ c κs. search rules)
    (λ c κs. search (rules, busy_last))
    (λ c. search (rules, to_ended))
    (λ c κs. search rules)
    (λ c κs. search rules)
    (λ c κs. search rules)
    (λ c κs. search (rules, speaking_last))
    (λ c. search (rules, to_spoken))
    (λ c. search (rules, to_kept)))
