use borrow.Author.Rules.{rules}
use Rattle.line_rules.proofs.is_unread.Statement.{statement}
use Rattle.line_rules.proofs.is_unread.Tie as tie

pub is_unread_spec : {M : Type 1} → statement M
is_unread_spec = tie.close (tie.spec (λ c κs. search rules) (λ c. cc))
