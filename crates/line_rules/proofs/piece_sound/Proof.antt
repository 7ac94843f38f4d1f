use borrow.Author.Rules.{rules}
use Rattle.line_rules.specs.Line.{piece_sound}
use Rattle.line_rules.proofs.Laws.{to_piece, end_told}
use Rattle.line_rules.proofs.piece_sound.Statement.{statement}
use Rattle.line_rules.proofs.piece_sound.Tie as tie

pub piece_sound_spec : {M : Type 1} → statement M
unfolding piece_sound
piece_sound_spec =
    tie.close
    (tie.spec (λ c. search rules) (λ c. search rules) (λ c. search rules) (λ c. search rules) (λ c. search rules) (λ c. search rules)
    (λ c. search rules) (λ c. search rules) (λ c. search rules) (λ c. search rules) (λ c κs. search rules) (λ c κs. search rules) (λ c. search (rules, to_piece))
    (λ c. search (rules, to_piece)) (λ c. search (rules, to_piece)) (λ c. search (rules, end_told)))
