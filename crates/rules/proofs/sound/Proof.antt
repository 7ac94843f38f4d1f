use borrow.Author.Rules.{rules}
use Rattle.rules.proofs.sound.Statement.{statement}
use Rattle.rules.proofs.sound.Tie as tie

pub sound_spec : {M : Type 1} → statement M
sound_spec =
    tie.close
    (tie.spec (λ c κs. search rules) (λ c κs. search rules) (λ c κs. search rules) (λ c κs. search rules) (λ c κs. search rules)
    (λ c κs. search rules) (λ c κs. search rules) (λ c κs. search rules) (λ c κs. search rules) (λ c κs. search rules) (λ c κs. search rules) (λ c. cc))
