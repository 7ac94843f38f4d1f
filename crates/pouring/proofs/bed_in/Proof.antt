-- `pouring::bed_in` meets its contract.
use borrow.Author.Rules.{rules}
use Rattle.pouring.specs.Pour.{bed_in}
use Rattle.pouring.proofs.Cases.{to_bed_in}
use Rattle.pouring.proofs.bed_in.Statement.{statement}
use Rattle.pouring.proofs.bed_in.Tie as tie

pub bed_in_spec : {M : Type 1} → statement M
unfolding bed_in
bed_in_spec =
    tie.close
    (tie.spec (λ c. search rules) (λ c κs. search rules) (λ c. search rules) (λ c κs. search rules) (λ c. search rules)
    (λ c. search rules) (λ c κs. search rules) (λ c. search rules) (λ c κs. search rules) (λ c. search rules) (λ c κs. search rules)
    (λ c. search rules) (λ c κs. search rules) (λ c. search (rules, to_bed_in)) (λ c. search (rules, to_bed_in))
    (λ c. search (rules, to_bed_in)) (λ c. search (rules, to_bed_in)) (λ c. search (rules, to_bed_in)) (λ c. search (rules, to_bed_in))
    (λ c. search (rules, to_bed_in)))
