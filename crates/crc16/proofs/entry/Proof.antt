-- `entry` meets its contract: each answer is the table's.
use borrow.Author.Rules.{rules}
use Rattle.crc16.proofs.Steps.{step_at, last}
use Rattle.crc16.proofs.entry.Statement.{statement}
use Rattle.crc16.proofs.entry.Tie as tie

pub entry_spec : {M : Type 1} → statement M
entry_spec =
    tie.close
    (tie.spec (λ c. search (rules, step_at)) (λ c. search (rules, step_at)) (λ c. search (rules, step_at))
    (λ c. search (rules, step_at)) (λ c. search (rules, step_at)) (λ c. search (rules, step_at)) (λ c. search (rules, step_at))
    (λ c. search (rules, step_at)) (λ c. search (rules, step_at)) (λ c. search (rules, step_at)) (λ c. search (rules, step_at))
    (λ c. search (rules, step_at)) (λ c. search (rules, step_at)) (λ c. search (rules, step_at)) (λ c. search (rules, step_at))
    (λ c. search (rules, last)))
