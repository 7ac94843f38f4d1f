use borrow.Author.Rules.{rules}
use Rattle.place_rules.proofs.queue_sound.Statement.{statement}
use Rattle.place_rules.proofs.queue_sound.Tie as tie

pub queue_sound_spec : {M : Type 1} → statement M
queue_sound_spec = tie.close (tie.spec (λ c κs. search rules) (λ c κs. search rules) (λ c. cc))
