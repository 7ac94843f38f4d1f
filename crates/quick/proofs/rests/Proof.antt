-- `quick::rests` meets its contract.
use borrow.Author.Rules.{rules}
use Rattle.base.specs.Pick.{picks}
use Rattle.quick.proofs.rests.Statement.{statement}
use Rattle.quick.proofs.rests.Tie as tie

pub rests_spec : {M : Type 1} → statement M
rests_spec =
    tie.close
    (tie.spec (λ c. search (rules, picks)) (λ c κs. search rules) (λ c. search (rules, picks)) (λ c κs. search rules)
    (λ c. search (rules, picks)))
