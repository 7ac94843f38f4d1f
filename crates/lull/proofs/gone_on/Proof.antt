-- `lull::gone_on` meets its contract.
use borrow.Author.Rules.{rules}
use Rattle.base.specs.Pick.{picks}
use Rattle.lull.specs.Lull.{gone_on}
use Rattle.lull.proofs.gone_on.Statement.{statement}
use Rattle.lull.proofs.gone_on.Tie as tie

pub gone_on_spec : {M : Type 1} → statement M
unfolding gone_on
gone_on_spec = tie.close (tie.spec (λ c. search (rules, picks)) (λ c. search rules) (λ c. search (rules, picks)))
