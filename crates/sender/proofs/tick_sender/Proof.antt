use borrow.Author.Rules.{rules}
use Rattle.sender.proofs.Laws.{has_room, after_fit, to_sent}
use Rattle.sender.proofs.tick_sender.Statement.{statement}
use Rattle.sender.proofs.tick_sender.Tie as tie

pub tick_sender_spec : {M : Type 1} → statement M
tick_sender_spec =
    tie.close
    (tie.spec (λ c κs. search rules) (λ c κs. search (rules, has_room)) (λ c κs. search (rules, after_fit)) (λ c κs. search rules)
    (λ c κs. search rules) (λ c κs. search rules) (λ c. search (rules, to_sent)))
