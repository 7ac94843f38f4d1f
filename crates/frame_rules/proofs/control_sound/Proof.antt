use borrow.Author.Rules.{rules}
use Rattle.frame_rules.proofs.control_sound.Statement.{statement}
use Rattle.frame_rules.proofs.control_sound.Tie as tie

pub control_sound_spec : {M : Type 1} → statement M
control_sound_spec = tie.close (tie.spec (λ c κs. search rules) (λ c κs. search rules) (λ c κs. search rules) (λ c κs. search rules) (λ c. cc))
