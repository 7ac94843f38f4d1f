-- `reply` meets its contract.
use borrow.Author.Rules.{rules}
use Rattle.base.specs.Pick.{picks}
use Rattle.parts.specs.Variants.{reply_of}
use Rattle.parts.proofs.reply.Statement.{statement}
use Rattle.parts.proofs.reply.Tie as tie

pub reply_spec : {M : Type 1} → statement M
unfolding reply_of
reply_spec = tie.close (tie.spec (λ c. search (rules, picks)) (λ c. search (rules, picks)) (λ c. search (rules, picks)) (λ c. search (rules, picks)))
