-- `queue_of` meets its contract: the facts are further back than a search goes.
use borrow.Author.Rules.{rules}
use Rattle.cells.proofs.Laws.{to_queue}
use Rattle.cells.proofs.queue_of.Statement.{statement}
use Rattle.cells.proofs.queue_of.Tie as tie

pub queue_of_spec : {M : Type 1} → statement M
queue_of_spec =
    tie.close
    (tie.spec (λ c. search rules) (λ c. search rules) (λ c. search rules) (λ c κs. search rules) (λ c κs. search rules) (λ c. search rules)
    (λ c κs. search rules) (λ c κs. search rules) (λ c. search rules) (λ c κs. search rules) (λ c κs. search rules) (λ c. search rules)
    (λ c κs. search rules) (λ c κs. search rules) (λ c. search rules) (λ c κs. search rules) (λ c κs. search rules) (λ c. search rules)
    (λ c κs. search rules) (λ c κs. search rules) (λ c. search rules) (λ c κs. search rules) (λ c κs. search rules) (λ c. search rules)
    (λ c κs. search rules) (λ c κs. search rules) (λ c. search rules) (λ c κs. search rules) (λ c. search rules) (λ c κs. search rules)
    (λ c.
    let f-second3 = c.second-3.ensures in
    let f-first3 = c.first-3.ensures in
    let f-place8 = c.place-8.ensures in
    let f-fourth2 = c.fourth-2.ensures in
    let f-place7 = c.place-7.ensures in
    let f-third2 = c.third-2.ensures in
    let f-place6 = c.place-6.ensures in
    let f-second2 = c.second-2.ensures in
    let f-place5 = c.place-5.ensures in
    let f-first2 = c.first-2.ensures in
    let f-place4 = c.place-4.ensures in
    let f-fourth = c.fourth.ensures in
    let f-place3 = c.place-3.ensures in
    let f-third = c.third.ensures in
    let f-place2 = c.place-2.ensures in
    let f-second = c.second.ensures in
    let f-place = c.place.ensures in
    let f-first = c.first.ensures in
    to_queue _ _ _ _ _ _ _ _ _ _ _ _ _ _ _ _ _ _ _ f-first f-place f-second f-place2 f-third f-place3 f-fourth f-place4 f-first2 f-place5 f-second2 f-place6 f-third2 f-place7 f-fourth2 f-place8 f-first3 f-second3))
