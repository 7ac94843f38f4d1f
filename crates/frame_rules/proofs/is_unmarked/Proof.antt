use borrow.Author.Rules.{rules}
use Rattle.frame_rules.specs.Frames.{is_unmarked}
use Rattle.frame_rules.proofs.Laws.{to_unmarked, forward_told}
use Rattle.frame_rules.proofs.is_unmarked.Statement.{statement}
use Rattle.frame_rules.proofs.is_unmarked.Tie as tie

pub is_unmarked_spec : {M : Type 1} → statement M
unfolding is_unmarked
is_unmarked_spec =
    tie.close
    (tie.spec (λ c. search rules) (λ c. search rules) (λ c κs. search rules) (λ c. search rules) (λ c. search rules)
    (λ c. search (rules, to_unmarked)) (λ c. search (rules, forward_told)) (λ c. search (rules, to_unmarked))
    (λ c. search (rules, to_unmarked)))
