-- `command` meets its contract.
use borrow.Author.Rules.{rules}
use Rattle.base.specs.Pick.{picks}
use Rattle.parts.specs.Variants.{command_of}
use Rattle.parts.proofs.command.Statement.{statement}
use Rattle.parts.proofs.command.Tie as tie

pub command_spec : {M : Type 1} → statement M
unfolding command_of
command_spec =
    tie.close
    (tie.spec (λ c. search (rules, picks) depth 24 fits 4000) (λ c. search (rules, picks) depth 24 fits 4000)
    (λ c. search (rules, picks) depth 24 fits 4000) (λ c. search (rules, picks) depth 24 fits 4000) (λ c. search (rules, picks) depth 24 fits 4000)
    (λ c. search (rules, picks) depth 24 fits 4000) (λ c. search (rules, picks) depth 24 fits 4000))
