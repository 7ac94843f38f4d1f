-- `pouring::stay_note` meets its contract.
use borrow.Author.Rules.{rules}
use Rattle.pouring.specs.Pour.{stay_note}
use Rattle.pouring.proofs.Cases.{to_note}
use Rattle.pouring.proofs.stay_note.Statement.{statement}
use Rattle.pouring.proofs.stay_note.Tie as tie

pub stay_note_spec : {M : Type 1} → statement M
unfolding stay_note
stay_note_spec =
    tie.close
    (tie.spec (λ c. search rules) (λ c. search rules) (λ c. search rules) (λ c. search rules)
    (λ c. search (rules, to_note)) (λ c. search (rules, to_note)) (λ c. search (rules, to_note)) (λ c. search (rules, to_note)))
