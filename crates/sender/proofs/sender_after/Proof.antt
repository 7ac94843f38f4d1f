use borrow.Author.Rules.{rules}
use Rattle.state.specs.Queue.{no_place}
use Rattle.sender.specs.Sender.{sender_after}
use Rattle.sender.proofs.Laws.{to_sender, to_first, words_below, ends_below, ends_fit}
use Rattle.sender.proofs.sender_after.Statement.{statement}
use Rattle.sender.proofs.sender_after.Tie as tie

pub sender_after_spec : {M : Type 1} → statement M
sender_after_spec =
    tie.close
    (tie.spec (λ c. search rules) (λ c. search rules) (λ c. search rules) (λ c κs. search rules) (λ c κs. search rules)
    (λ c. search rules) (λ c κs. search rules) (λ c. search rules) (λ c κs. search rules) (λ c κs. search rules) (λ c. search rules)
    (λ c. search rules) (λ c. search rules) (λ c. search (rules, words_below)) (λ c. unfold no_place in search (rules, ends_fit))
    (λ c κs. search rules) (λ c. search rules) (λ c. search rules) (λ c. search rules) (λ c. search (rules, ends_below))
    (λ c κs. search rules) (λ c κs. search rules) (λ c. search rules) (λ c. unfold sender_after in search (rules, to_sender))
    (λ c. unfold sender_after in search (rules, to_sender, to_first)) (λ c. unfold sender_after in search (rules, to_sender))
    (λ c. unfold sender_after in search (rules, to_sender, to_first)) (λ c. unfold sender_after no_place in search (rules, to_sender))
    (λ c. unfold sender_after no_place in search (rules, to_sender, to_first)) (λ c. unfold sender_after in search (rules, to_sender)))
