-- `script::sign` meets its contract.
use borrow.Author.Rules.{rules}
use Rattle.script.proofs.Laws.{sign_one, sign_zero}
use Rattle.script.proofs.sign.Statement.{statement}
use Rattle.script.proofs.sign.Tie as tie

pub sign_spec : {M : Type 1} → statement M
sign_spec = tie.close (tie.spec (λ c. search (rules, sign_one, sign_zero)) (λ c. search (rules, sign_one, sign_zero)))
