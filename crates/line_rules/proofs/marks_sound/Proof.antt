use borrow.Author.Rules.{rules}
use Rattle.line_rules.specs.Line.{marks_sound}
use Rattle.line_rules.proofs.Laws.{to_marks}
use Rattle.line_rules.proofs.marks_sound.Statement.{statement}
use Rattle.line_rules.proofs.marks_sound.Tie as tie

pub marks_sound_spec : {M : Type 1} → statement M
unfolding marks_sound
marks_sound_spec =
    tie.close
    (tie.spec (λ c. search rules) (λ c. search rules) (λ c κs. search rules) (λ c. search rules) (λ c κs. search rules)
    (λ c. search (rules, to_marks)) (λ c. search (rules, to_marks)) (λ c. search (rules, to_marks)))
