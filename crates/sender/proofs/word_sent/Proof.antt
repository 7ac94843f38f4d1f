use borrow.Author.Rules.{rules}
use Rattle.sender.specs.Sender.{word_sent}
use Rattle.sender.proofs.word_sent.Statement.{statement}
use Rattle.sender.proofs.word_sent.Tie as tie

pub word_sent_spec : {M : Type 1} → statement M
unfolding word_sent
word_sent_spec = tie.close (tie.spec (λ c κs. search rules) (λ c κs. search rules) (λ c. cc))
