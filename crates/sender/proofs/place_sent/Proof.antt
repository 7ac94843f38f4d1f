use borrow.Author.Rules.{rules}
use Rattle.sender.specs.Sender.{place_sent}
use Rattle.sender.proofs.place_sent.Statement.{statement}
use Rattle.sender.proofs.place_sent.Tie as tie

pub place_sent_spec : {M : Type 1} → statement M
unfolding place_sent
place_sent_spec = tie.close (tie.spec (λ c. search rules))
