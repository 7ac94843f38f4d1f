-- `answer_number` meets its contract.
use borrow.Author.Rules.{rules}
use Rattle.icelichen_bridge.proofs.Laws.{to_answer}
use Rattle.icelichen_bridge.proofs.answer_number.Statement.{statement}
use Rattle.icelichen_bridge.proofs.answer_number.Tie as tie

pub answer_number_spec : {M : Type 1} → statement M
answer_number_spec =
    tie.close
    (tie.spec (λ c κs. search rules) (λ c. search rules) (λ c. search rules) (λ c. search rules) (λ c. search rules) (λ c κs. search rules)
    (λ c. search rules) (λ c. search (rules, to_answer)))
