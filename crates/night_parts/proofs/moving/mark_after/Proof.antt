-- `night_parts::moving::mark_after` meets its contract.
use borrow.Author.Rules.{rules}
use Rattle.base.specs.Pick.{picks}
use Rattle.night_parts.proofs.moving.mark_after.Statement.{statement}
use Rattle.night_parts.proofs.moving.mark_after.Tie as tie

pub mark_after_spec : {M : Type 1} → statement M
mark_after_spec =
    tie.close
    (tie.spec (λ c. search (rules, picks)) (λ c. search (rules, picks)))
