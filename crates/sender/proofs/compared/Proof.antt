use borrow.Author.Rules.{rules}
use Rattle.base.specs.Pick.{picks}
use Rattle.sender.proofs.compared.Statement.{statement}
use Rattle.sender.proofs.compared.Tie as tie

pub compared_spec : {M : Type 1} → statement M
compared_spec = tie.close (tie.spec (λ c κs. search rules) (λ c. search (rules, picks)) (λ c. search (rules, picks)))
