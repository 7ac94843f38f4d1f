-- `of_piece` meets its contract: an arm knows its variant (`to_piece`).
use borrow.Author.Rules.{rules}
use Rattle.parts.proofs.Laws.{to_piece}
use Rattle.parts.proofs.of_piece.Statement.{statement}
use Rattle.parts.proofs.of_piece.Tie as tie

pub of_piece_spec : {M : Type 1} → statement M
of_piece_spec =
    tie.close
    (tie.spec (λ c. search rules) (λ c κs. search rules) (λ c. search rules) (λ c κs. search rules) (λ c. search rules) (λ c κs. search rules)
    (λ c. search rules) (λ c κs. search rules) (λ c. search (rules, to_piece)) (λ c. search (rules, to_piece)) (λ c. search (rules, to_piece))
    (λ c. search (rules, to_piece)))
