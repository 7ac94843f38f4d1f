-- `of_command` meets its contract: an arm knows its variant (`to_command`).
use borrow.Author.Rules.{rules}
use Rattle.parts.proofs.Laws.{to_command}
use Rattle.parts.proofs.of_command.Statement.{statement}
use Rattle.parts.proofs.of_command.Tie as tie

pub of_command_spec : {M : Type 1} → statement M
of_command_spec =
    tie.close
    (tie.spec (λ c. search rules) (λ c κs. search rules) (λ c. search rules) (λ c κs. search rules) (λ c. search rules) (λ c κs. search rules)
    (λ c. search rules) (λ c κs. search rules) (λ c. search rules) (λ c κs. search rules) (λ c. search rules) (λ c κs. search rules)
    (λ c. search rules) (λ c κs. search rules) (λ c. search (rules, to_command)) (λ c. search (rules, to_command)) (λ c. search (rules, to_command))
    (λ c. search (rules, to_command)) (λ c. search (rules, to_command)) (λ c. search (rules, to_command)) (λ c. search (rules, to_command)))
