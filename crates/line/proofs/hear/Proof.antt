use borrow.Author.Rules.{rules}
use Rattle.base.specs.Pick.{picks}
use Rattle.line.specs.Reader.{hear}
use Rattle.line.proofs.Laws.{to_hear, to_group, to_lost}
use Rattle.line.proofs.hear.Statement.{statement}
use Rattle.line.proofs.hear.Tie as tie

pub hear_spec : {M : Type 1} → statement M
unfolding hear
hear_spec =
    tie.close
    (tie.spec (λ c. search rules) (λ c. search (rules, picks, to_hear)) (λ c. search rules) (λ c κs. search rules)
    (λ c κs. search rules) (λ c. search rules) (λ c κs. search rules) (λ c κs. search rules) (λ c. search (rules, picks, to_hear))
    (λ c. search (rules, to_hear, to_group)) (λ c. search (rules, to_hear, to_lost)))
