use borrow.Author.Rules.{rules}
use Rattle.line_rules.proofs.heard_marks.Statement.{statement}
use Rattle.line_rules.proofs.heard_marks.Tie as tie

pub heard_marks_spec : {M : Type 1} → statement M
heard_marks_spec = tie.close (tie.spec (λ c κs. search rules) (λ c κs. search rules) (λ c κs. search rules) (λ c. cc))
