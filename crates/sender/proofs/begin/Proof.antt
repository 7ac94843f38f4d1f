use borrow.Author.Rules.{rules}
use Rattle.sender.proofs.begin.Statement.{statement}
use Rattle.sender.proofs.begin.Tie as tie

pub begin_spec : {M : Type 1} → statement M
begin_spec = tie.close (tie.spec (λ c κs. search rules) (λ c. cc))
