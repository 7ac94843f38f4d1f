use borrow.Author.Rules.{rules}
use Rattle.place_rules.proofs.waits.Statement.{statement}
use Rattle.place_rules.proofs.waits.Tie as tie

pub waits_spec : {M : Type 1} → statement M
waits_spec = tie.close (tie.spec (λ c. search rules) (λ c. search rules) (λ c. search rules) (λ c κs. search rules) (λ c. cc))
