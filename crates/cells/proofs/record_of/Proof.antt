-- `record_of` meets its contract: the facts are further back than a search goes.
use borrow.Author.Rules.{rules}
use Rattle.cells.proofs.Laws.{to_record}
use Rattle.cells.proofs.record_of.Statement.{statement}
use Rattle.cells.proofs.record_of.Tie as tie

pub record_of_spec : {M : Type 1} → statement M
record_of_spec =
    tie.close
    (tie.spec (λ c. search rules) (λ c. search rules) (λ c. search rules) (λ c. search rules) (λ c κs. search rules) (λ c κs. search rules)
    (λ c κs. search rules) (λ c κs. search rules) (λ c. search rules) (λ c. search rules) (λ c κs. search rules) (λ c κs. search rules)
    (λ c κs. search rules) (λ c. search rules) (λ c. search rules) (λ c. search rules) (λ c κs. search rules) (λ c. search rules) (λ c. search rules)
    (λ c. search rules) (λ c. search rules) (λ c. search rules) (λ c κs. search rules) (λ c. search rules) (λ c. search rules) (λ c κs. search rules)
    (λ c.
    let f-clock = c.clock.ensures in
    let f-frame = c.frame.ensures in
    let f-reader = c.reader.ensures in
    let f-fourth = c.fourth.ensures in
    let f-third = c.third.ensures in
    let f-sender = c.sender.ensures in
    let f-queue-of = c.queue_of.ensures in
    let f-second = c.second.ensures in
    let f-first = c.first.ensures in
    let f-control = c.control.ensures in
    to_record _ _ _ _ _ _ _ _ _ _ _ f-control f-first f-second f-queue-of f-sender f-third f-fourth f-reader f-frame f-clock))
