use borrow.Author.Rules.{rules}
use Rattle.drain.specs.Drain.{drain}
use Rattle.base.specs.Pick.{picks}
use Rattle.bridge.proofs.Keeping.{is_ready_lem}
use Rattle.drain.proofs.Laws.{to_refused}
use Rattle.drain.proofs.drain.Statement.{statement}
use Rattle.drain.proofs.drain.Tie as tie

pub drain_spec : {M : Type 1} → statement M
unfolding drain
drain_spec =
    tie.close
    (tie.spec (λ c κs. search rules) (λ c. search (rules, picks, to_refused)) (λ c κs. search rules)
    (λ c. search (rules, picks, to_refused)) (λ c κs. search rules) (λ c κs. search (rules, is_ready_lem)) (λ c. search rules)
    (λ c. search rules) (λ c. search (rules, picks)) (λ c κs. search rules) (λ c. search (rules, picks, to_refused)))
