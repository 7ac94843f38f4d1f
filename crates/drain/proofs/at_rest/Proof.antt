use borrow.Author.Rules.{rules}
use Rattle.drain.proofs.at_rest.Statement.{statement}
use Rattle.drain.proofs.at_rest.Tie as tie

pub at_rest_spec : {M : Type 1} → statement M
at_rest_spec = tie.close (tie.spec (λ c κs. search rules) (λ c κs. search rules) (λ c. cc))
