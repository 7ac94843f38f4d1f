-- `of_reply` meets its contract: an arm knows its variant (`to_reply`).
use borrow.Author.Rules.{rules}
use Rattle.parts.proofs.Laws.{to_reply}
use Rattle.parts.proofs.of_reply.Statement.{statement}
use Rattle.parts.proofs.of_reply.Tie as tie

pub of_reply_spec : {M : Type 1} → statement M
of_reply_spec =
    tie.close
    (tie.spec (λ c. search rules) (λ c κs. search rules) (λ c. search rules) (λ c κs. search rules) (λ c. search rules) (λ c κs. search rules)
    (λ c. search rules) (λ c κs. search rules) (λ c. search (rules, to_reply)) (λ c. search (rules, to_reply)) (λ c. search (rules, to_reply))
    (λ c. search (rules, to_reply)))
