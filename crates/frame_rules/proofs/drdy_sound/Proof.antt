use borrow.Author.Rules.{rules}
use Rattle.base.specs.Pick.{picks}
use Rattle.frame_rules.proofs.drdy_sound.Statement.{statement}
use Rattle.frame_rules.proofs.drdy_sound.Tie as tie

pub drdy_sound_spec : {M : Type 1} → statement M
drdy_sound_spec = tie.close (tie.spec (λ c. search (rules, picks)) (λ c. search (rules, picks)))
