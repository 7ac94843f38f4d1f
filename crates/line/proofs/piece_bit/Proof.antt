use borrow.Author.Rules.{rules}
use Rattle.line.specs.Format.{piece_bit}
use Rattle.line.proofs.Laws.{to_piece_bit}
use Rattle.line.proofs.piece_bit.Statement.{statement}
use Rattle.line.proofs.piece_bit.Tie as tie

pub piece_bit_spec : {M : Type 1} → statement M
unfolding piece_bit
piece_bit_spec =
    tie.close
    (tie.spec (λ c. search rules) (λ c. search rules) (λ c. search rules) (λ c κs. search rules) (λ c. search rules)
    (λ c. search (rules, to_piece_bit)) (λ c. search (rules, to_piece_bit)) (λ c. search (rules, to_piece_bit))
    (λ c. search (rules, to_piece_bit)))
