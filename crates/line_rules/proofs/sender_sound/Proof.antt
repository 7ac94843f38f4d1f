use borrow.Author.Rules.{rules}
use Rattle.line_rules.proofs.sender_sound.Statement.{statement}
use Rattle.line_rules.proofs.sender_sound.Tie as tie

pub sender_sound_spec : {M : Type 1} → statement M
sender_sound_spec =
    tie.close
    (tie.spec (λ c κs. search rules) (λ c κs. search rules) (λ c κs. search rules) (λ c κs. search rules) (λ c κs. search rules)
    (λ c κs. search rules) (λ c. cc))
