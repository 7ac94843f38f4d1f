-- `lull::rests_in` meets its contract.
use borrow.Author.Rules.{rules}
use Rattle.quick.proofs.Between.{to_rests}
use Rattle.lull.proofs.rests_in.Statement.{statement}
use Rattle.lull.proofs.rests_in.Tie as tie

pub rests_in_spec : {M : Type 1} → statement M
rests_in_spec = tie.close (tie.spec (λ c κs. search rules) (λ c κs. search rules) (λ c. search (rules, to_rests)))
