use borrow.Author.Rules.{rules}
use Rattle.base.specs.Pick.{picks}
use Rattle.line_rules.proofs.ends_allowed.Statement.{statement}
use Rattle.line_rules.proofs.ends_allowed.Tie as tie

pub ends_allowed_spec : {M : Type 1} → statement M
ends_allowed_spec = tie.close (tie.spec (λ c. search (rules, picks)) (λ c. search (rules, picks)))
