use borrow.Author.Rules.{rules}
use Rattle.line_rules.proofs.reader_sound.Statement.{statement}
use Rattle.line_rules.proofs.reader_sound.Tie as tie

pub reader_sound_spec : {M : Type 1} → statement M
reader_sound_spec = tie.close (tie.spec (λ c κs. search rules) (λ c κs. search rules) (λ c. cc))
