-- `script::read` meets its contract.
use borrow.Author.Rules.{rules}
use Rattle.script.specs.Script.{record_of}
use Rattle.script.proofs.Laws.{to_kind, to_bad}
use Rattle.script.proofs.read.Statement.{statement}
use Rattle.script.proofs.read.Tie as tie

pub read_spec : {M : Type 1} → statement M
unfolding record_of
read_spec =
    tie.close
    (tie.spec (λ c κs. search rules) (λ c κs. search rules) (λ c κs. search rules) (λ c. search (rules, to_kind, to_bad))
    (λ c. search (rules, to_kind, to_bad)) (λ c. search (rules, to_kind, to_bad)) (λ c. search (rules, to_kind, to_bad))
    (λ c. search (rules, to_kind, to_bad)) (λ c. search (rules, to_kind, to_bad)))
