-- `night_parts::moving::moved` meets its contract.
use borrow.Author.Rules.{rules}
use Rattle.night_parts.proofs.Moves.{to_word_move, to_release_move, to_no_move}
use Rattle.night_parts.proofs.moving.moved.Statement.{statement}
use Rattle.night_parts.proofs.moving.moved.Tie as tie

pub moved_spec : {M : Type 1} → statement M
moved_spec =
    tie.close
    (tie.spec (λ c κs. search rules) (λ c. search (rules, to_word_move)) (λ c κs. search rules) (λ c. search (rules, to_release_move))
    (λ c κs. search rules) (λ c. search (rules, to_no_move)))
