use borrow.Author.Rules.{rules}
use Rattle.line_rules.proofs.Laws.{to_ear}
use Rattle.line_rules.specs.Line.{ear_sound}
use Rattle.line_rules.proofs.ear_sound.Statement.{statement}
use Rattle.line_rules.proofs.ear_sound.Tie as tie

pub ear_sound_spec : {M : Type 1} → statement M
unfolding ear_sound
ear_sound_spec =
    tie.close
    (tie.spec (λ c. search rules) (λ c. search rules) (λ c. search rules) (λ c. search (rules, to_ear)) (λ c. search (rules, to_ear))
    (λ c. search (rules, to_ear)))
