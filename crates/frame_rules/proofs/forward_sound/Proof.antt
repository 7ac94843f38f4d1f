use borrow.Author.Rules.{rules}
use Rattle.frame_rules.proofs.forward_sound.Statement.{statement}
use Rattle.frame_rules.proofs.forward_sound.Tie as tie

pub forward_sound_spec : {M : Type 1} → statement M
forward_sound_spec = tie.close (tie.spec (λ c κs. search rules) (λ c. cc))
