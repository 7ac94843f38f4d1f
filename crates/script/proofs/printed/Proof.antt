-- `script::printed` meets its contract.
use borrow.Author.Rules.{rules}
use Rattle.script.specs.Script.{line_of}
use Rattle.base.specs.Pick.{pick_lt, pick_not_lt}
use Rattle.script.proofs.printed.Statement.{statement}
use Rattle.script.proofs.printed.Tie as tie

pub printed_spec : {M : Type 1} → statement M
unfolding line_of
printed_spec =
    tie.close
    (tie.spec (λ c κs. search rules) (λ c κs. search rules) (λ c κs. search rules) (λ c κs. search rules) (λ c κs. search rules)
    (λ c κs. search rules) (λ c κs. search rules) (λ c κs. search rules) (λ c κs. search rules) (λ c κs. search rules)
    (λ c κs. search rules) (λ c. pick_lt _ _ _ _ _ c.if-note-lt10.true (cc)) (λ c κs. search rules)
    (λ c. pick_not_lt _ _ _ _ _ c.if-note-lt10.false (cc)))
