use borrow.Author.Rules.{rules}
use Rattle.registers.specs.Writing.{mode_after}
use Rattle.writing.proofs.Laws.{pick_both, pick_not_both}
use Rattle.writing.proofs.mode_after.Statement.{statement}
use Rattle.writing.proofs.mode_after.Tie as tie

pub mode_after_spec : {M : Type 1} → statement M
unfolding mode_after
mode_after_spec =
    tie.close
    (tie.spec (λ c κs. search rules) (λ c κs. search rules) (λ c κs. search rules) (λ c. search (rules, pick_both, pick_not_both))
    (λ c κs. search rules) (λ c. search (rules, pick_both, pick_not_both)) (λ c. search (rules, pick_both, pick_not_both)))
