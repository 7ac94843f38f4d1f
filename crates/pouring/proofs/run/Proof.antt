-- `pouring::run` meets its contract.
use borrow.Author.Rules.{rules}
use Rattle.pouring.proofs.Runs.{with_tx}
use Rattle.pouring.proofs.run.Statement.{statement}
use Rattle.pouring.proofs.run.Tie as tie

pub run_spec : {M : Type 1} → statement M
run_spec =
    tie.close
    (tie.spec (λ c κs. search rules) (λ c κs. search rules)
    (λ c κs. (search rules, (search rules, (search rules, (search rules, (search rules, search rules))))))
    (λ c. search rules) (λ c. search rules) (λ c. search rules) (λ c κs. search rules) (λ c. search rules)
    (λ c. search (rules, with_tx)))
