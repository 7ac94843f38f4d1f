-- `ear` meets its contract.
use borrow.Author.Rules.{rules}
use Rattle.base.specs.Pick.{picks}
use Rattle.parts.specs.Variants.{ear_of}
use Rattle.parts.proofs.ear.Statement.{statement}
use Rattle.parts.proofs.ear.Tie as tie

pub ear_spec : {M : Type 1} → statement M
unfolding ear_of
ear_spec = tie.close (tie.spec (λ c. search (rules, picks)) (λ c. search (rules, picks)) (λ c. search (rules, picks)))
