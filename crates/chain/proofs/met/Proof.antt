-- `chain::met` meets its contract.
use borrow.Author.Rules.{rules}
use Rattle.chain.proofs.Laws.{to_room, to_sent}
use Rattle.chain.proofs.met.Statement.{statement}
use Rattle.chain.proofs.met.Tie as tie

pub met_spec : {M : Type 1} → statement M
met_spec =
    tie.close
    (tie.spec
    (λ c. search rules)
    (λ c κs. search rules)
    (λ c κs. search rules)
    (λ c. search rules)
    (λ c κs. search rules)
    (λ c. search (rules, to_room))
    (λ c. search (rules, to_sent)))
