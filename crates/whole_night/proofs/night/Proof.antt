-- `whole_night::night` meets its contract.
use borrow.Author.Rules.{rules}
use Rattle.base.specs.Truth.{told}
use Rattle.whole_night.proofs.Link.{to_wrong_cut, to_wrong_kind, to_tested}
use Rattle.whole_night.proofs.night.Statement.{statement}
use Rattle.whole_night.proofs.night.Tie as tie

pub night_spec : {M : Type 1} → statement M
night_spec =
    tie.close
    (tie.spec (λ c κs. search rules) (λ c. search (rules, to_wrong_cut)) (λ c κs. search rules) (λ c κs. (search (rules, told), search rules))
    (λ c. search rules) (λ c. search rules) (λ c. search rules) (λ c. search (rules, to_tested)) (λ c κs. search rules)
    (λ c. search (rules, to_wrong_kind)))
