use borrow.Author.Rules.{rules}
use Rattle.place_rules.specs.Places.{role_sound}
use Rattle.base.specs.Pick.{picks}
use Rattle.base.specs.Truth.{not_told}
use Rattle.place_rules.proofs.role_sound.Statement.{statement}
use Rattle.place_rules.proofs.role_sound.Tie as tie

pub role_sound_spec : {M : Type 1} → statement M
unfolding role_sound
role_sound_spec =
    tie.close
    (tie.spec (λ c κs. search rules) (λ c. search (rules, picks)) (λ c. search rules) (λ c κs. search rules)
    (λ c. search (rules, picks)) (λ c κs. search rules) (λ c. search (rules, picks, not_told)))
