use borrow.Author.Rules.{rules}
use Rattle.sender.specs.Sender.{command_sent}
use Rattle.sender.proofs.command_sent.Statement.{statement}
use Rattle.sender.proofs.command_sent.Tie as tie

pub command_sent_spec : {M : Type 1} → statement M
unfolding command_sent
command_sent_spec = tie.close (tie.spec (λ c. search rules))
