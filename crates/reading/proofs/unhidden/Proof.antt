use borrow.Author.Rules.{rules}
use Rattle.reading.proofs.unhidden.Statement.{statement}
use Rattle.reading.proofs.unhidden.Tie as tie

pub unhidden_spec : {M : Type 1} → statement M
unhidden_spec = tie.close (tie.spec (λ c κs. search rules) (λ c κs. search rules) (λ c κs. search rules) (λ c κs. search rules) (λ c. cc))
