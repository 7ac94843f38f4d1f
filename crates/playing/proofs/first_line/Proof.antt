-- `playing::first_line` meets its contract.
use borrow.Author.Rules.{rules}
use Rattle.playing.proofs.Printed.{to_first}
use Rattle.playing.proofs.first_line.Statement.{statement}
use Rattle.playing.proofs.first_line.Tie as tie

pub first_line_spec : {M : Type 1} → statement M
first_line_spec =
    tie.close
    (tie.spec (λ c. search rules) (λ c. search rules) (λ c κs. search rules) (λ c. search rules) (λ c κs. search rules)
    (λ c. search rules) (λ c. search rules) (λ c κs. search rules) (λ c. search rules) (λ c. search rules) (λ c κs. search rules)
    (λ c. search (rules, to_first)))
