use borrow.Author.Rules.{rules}
use Rattle.base.specs.Pick.{picks}
use Rattle.line.specs.Reader.{in_lost}
use Rattle.line.proofs.in_lost.Statement.{statement}
use Rattle.line.proofs.in_lost.Tie as tie

pub in_lost_spec : {M : Type 1} → statement M
unfolding in_lost
in_lost_spec = tie.close (tie.spec (λ c. search (rules, picks)) (λ c. search (rules, picks)))
