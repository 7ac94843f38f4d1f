-- `mode` meets its contract.
use borrow.Author.Rules.{rules}
use Rattle.base.specs.Pick.{picks}
use Rattle.parts.specs.Variants.{mode_of}
use Rattle.parts.proofs.mode.Statement.{statement}
use Rattle.parts.proofs.mode.Tie as tie

pub mode_spec : {M : Type 1} → statement M
unfolding mode_of
mode_spec = tie.close (tie.spec (λ c. search (rules, picks)) (λ c. search (rules, picks)) (λ c. search (rules, picks)))
