-- `four` meets its contract (`four_back`).
use borrow.Author.Rules.{rules}
use Rattle.parts.proofs.Laws.{four_back}
use Rattle.parts.specs.Numbers.{four}
use Rattle.parts.proofs.numbers.four.Statement.{statement}
use Rattle.parts.proofs.numbers.four.Tie as tie

pub four_spec : {M : Type 1} → statement M
unfolding four
four_spec =
    tie.close
    (tie.spec (λ c. search rules) (λ c. search rules) (λ c. search rules) (λ c. search rules) (λ c. search rules) (λ c. search rules)
    (λ c. search (rules, four_back)))
