-- `pouring::mine_on` meets its contract.
use borrow.Author.Rules.{rules}
use Rattle.base.specs.Pick.{picks}
use Rattle.pouring.specs.Pour.{mine_on}
use Rattle.pouring.proofs.mine_on.Statement.{statement}
use Rattle.pouring.proofs.mine_on.Tie as tie

pub mine_on_spec : {M : Type 1} → statement M
unfolding mine_on
mine_on_spec = tie.close (tie.spec (λ c. search (rules, picks)) (λ c. search rules) (λ c. search (rules, picks)))
