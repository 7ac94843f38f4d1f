use borrow.Author.Rules.{rules}
use Rattle.frame_rules.proofs.Laws.{to_phase}
use Rattle.state.specs.Frame.{phase_sound}
use Rattle.frame_rules.proofs.phase_sound.Statement.{statement}
use Rattle.frame_rules.proofs.phase_sound.Tie as tie

pub phase_sound_spec : {M : Type 1} → statement M
unfolding phase_sound
phase_sound_spec =
    tie.close
    (tie.spec (λ c. search rules) (λ c. search rules) (λ c κs. search rules) (λ c. search rules) (λ c κs. search rules)
    (λ c. search rules) (λ c. search (rules, to_phase)) (λ c. search (rules, to_phase)) (λ c. search (rules, to_phase))
    (λ c. search (rules, to_phase)))
