use borrow.Author.Rules.{rules}
use Rattle.state.specs.Frame.{collect_sound}
use Rattle.frame_rules.proofs.Laws.{to_collect}
use Rattle.base.specs.Truth.{and_told}
use Rattle.frame_rules.proofs.collect_sound.Statement.{statement}
use Rattle.frame_rules.proofs.collect_sound.Tie as tie

pub collect_sound_spec : {M : Type 1} → statement M
unfolding collect_sound
collect_sound_spec =
    tie.close
    (tie.spec (λ c. search rules) (λ c. search rules) (λ c. search rules) (λ c κs. search rules) (λ c. search rules) (λ c. search rules)
    (λ c κs. search rules) (λ c. search rules) (λ c κs. search rules) (λ c. search rules) (λ c. search (rules, to_collect))
    (λ c. search (rules, to_collect)) (λ c. search (rules, to_collect)) (λ c. search (rules, to_collect))
    (λ c. search (rules, to_collect, and_told)) (λ c. search (rules, to_collect, and_told)) (λ c. search (rules, to_collect)))
