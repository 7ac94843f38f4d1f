use borrow.Author.Rules.{rules}
use Rattle.command.specs.Layout.{fields_of}
use Rattle.command.proofs.Laws.{to_fields}
use Rattle.command.proofs.fields_of.Statement.{statement}
use Rattle.command.proofs.fields_of.Tie as tie

pub fields_of_spec : {M : Type 1} → statement M
unfolding fields_of
fields_of_spec =
    tie.close
    (tie.spec (λ c. search rules) (λ c. search rules) (λ c. search rules) (λ c. search rules) (λ c. search (rules, to_fields)) (λ c. search (rules, to_fields)))
