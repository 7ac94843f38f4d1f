-- `given::sender` meets its contract.
use borrow.Author.Rules.{rules}
use Rattle.cells.specs.Cells.{sender_of}
use Rattle.cells.proofs.given.sender.Statement.{statement}
use Rattle.cells.proofs.given.sender.Tie as tie

pub sender_spec : {M : Type 1} → statement M
unfolding sender_of
sender_spec =
    tie.close
    (tie.spec (λ c κs. search rules) (λ c κs. search rules) (λ c κs. search rules) (λ c κs. search rules) (λ c κs. search rules)
    (λ c κs. search rules) (λ c. cc))
