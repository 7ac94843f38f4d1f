use borrow.Author.Rules.{rules}
use Rattle.sender.specs.Sender.{advanced}
use Rattle.sender.proofs.Laws.{to_advanced, sender_at, same_sending, to_loaded}
use Rattle.sender.proofs.advanced.Statement.{statement}
use Rattle.sender.proofs.advanced.Tie as tie

pub advanced_spec : {M : Type 1} → statement M
advanced_spec =
    tie.close
    (tie.spec (λ c κs. search rules) (λ c. search rules) (λ c κs. search rules) (λ c. search rules) (λ c κs. search rules)
    (λ c κs. search rules) (λ c. search rules) (λ c κs. search rules) (λ c. search rules) (λ c κs. search rules) (λ c. search rules)
    (λ c κs. search rules) (λ c. search rules) (λ c κs. search rules) (λ c. search rules) (λ c κs. search rules)
    (λ c. unfold advanced in search (rules, to_advanced, sender_at, same_sending)) (λ c. search (rules, to_loaded))
    (λ c. unfold advanced in search (rules, to_advanced, sender_at, same_sending))
    (λ c. unfold advanced in search (rules, to_advanced, sender_at, same_sending))
    (λ c. unfold advanced in search (rules, to_advanced, sender_at, same_sending))
    (λ c. unfold advanced in search (rules, to_advanced, sender_at, same_sending))
    (λ c. unfold advanced in search (rules, to_advanced, sender_at, same_sending)))
