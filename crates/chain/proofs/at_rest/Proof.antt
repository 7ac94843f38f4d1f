-- `chain::at_rest` meets its contract.
use borrow.Author.Rules.{rules}
use Rattle.chain.proofs.at_rest.Statement.{statement}
use Rattle.chain.proofs.at_rest.Tie as tie

pub at_rest_spec : {M : Type 1} → statement M
at_rest_spec = tie.close (tie.spec (λ c κs. search rules) (λ c κs. search rules) (λ c. cc))
