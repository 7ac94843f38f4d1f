-- `pouring::bed_of` meets its contract.
use borrow.Author.Rules.{rules}
use Rattle.pouring.specs.Pour.{bed_of}
use Rattle.pouring.proofs.Cases.{to_bed}
use Rattle.pouring.proofs.bed_of.Statement.{statement}
use Rattle.pouring.proofs.bed_of.Tie as tie

pub bed_of_spec : {M : Type 1} → statement M
unfolding bed_of
bed_of_spec =
    tie.close
    (tie.spec (λ c. search rules) (λ c κs. search rules) (λ c. search rules) (λ c κs. search rules) (λ c. search rules)
    (λ c κs. search rules) (λ c. search rules) (λ c κs. search rules) (λ c. search (rules, to_bed)) (λ c. search (rules, to_bed))
    (λ c. search (rules, to_bed)) (λ c. search (rules, to_bed)))
