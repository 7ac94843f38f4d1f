-- `layout` meets its contract.
use borrow.Author.Rules.{rules}
use Rattle.base.specs.Pick.{picks}
use Rattle.parts.specs.Variants.{layout_of}
use Rattle.parts.proofs.layout.Statement.{statement}
use Rattle.parts.proofs.layout.Tie as tie

pub layout_spec : {M : Type 1} → statement M
unfolding layout_of
layout_spec = tie.close (tie.spec (λ c. search (rules, picks)) (λ c. search (rules, picks)))
