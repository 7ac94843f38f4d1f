use borrow.Author.Rules.{rules}
use Rattle.base.specs.Pick.{picks}
use Rattle.state.specs.Queue.{no_place}
use Rattle.sender.specs.Sender.{queue_sent}
use Rattle.sender.proofs.Laws.{same_place}
use Rattle.sender.proofs.queue_sent.Statement.{statement}
use Rattle.sender.proofs.queue_sent.Tie as tie

pub queue_sent_spec : {M : Type 1} → statement M
queue_sent_spec =
    tie.close
    (tie.spec (λ c. search rules) (λ c. search rules) (λ c. search rules) (λ c. search rules) (λ c κs. search rules) (λ c. search rules)
    (λ c. search rules) (λ c. unfold queue_sent no_place in search (rules, picks, same_place))
    (λ c. unfold queue_sent in search (rules, picks)))
