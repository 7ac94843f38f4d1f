use borrow.Author.Rules.{rules}
use Rattle.base.specs.Pick.{picks}
use Rattle.frame_rules.proofs.unreleased.Statement.{statement}
use Rattle.frame_rules.proofs.unreleased.Tie as tie

pub unreleased_spec : {M : Type 1} → statement M
unreleased_spec = tie.close (tie.spec (λ c. search (rules, picks)) (λ c. search (rules, picks)))
