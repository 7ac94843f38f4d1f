use borrow.Author.Rules.{rules}
use Rattle.base.specs.Pick.{picks}
use Rattle.line_rules.specs.Line.{end_sound}
use Rattle.line_rules.proofs.end_sound.Statement.{statement}
use Rattle.line_rules.proofs.end_sound.Tie as tie

pub end_sound_spec : {M : Type 1} → statement M
unfolding end_sound
end_sound_spec = tie.close (tie.spec (λ c. search (rules, picks)) (λ c. search (rules, picks)))
