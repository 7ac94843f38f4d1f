-- `list_code` meets its contract.
use borrow.Author.Rules.{rules}
use Rattle.icelichen_bridge.proofs.Laws.{to_list_done, to_list_code}
use Rattle.icelichen_bridge.proofs.list_code.Statement.{statement}
use Rattle.icelichen_bridge.proofs.list_code.Tie as tie

pub list_code_spec : {M : Type 1} → statement M
list_code_spec =
    tie.close
    (tie.spec (λ c. search rules) (λ c. search rules) (λ c. search rules) (λ c. search rules) (λ c. search rules) (λ c. search rules)
    (λ c. search (rules, to_list_done)) (λ c. search (rules, to_list_code)) (λ c. search (rules, to_list_code)) (λ c. search (rules, to_list_code))
    (λ c. search (rules, to_list_code)))
