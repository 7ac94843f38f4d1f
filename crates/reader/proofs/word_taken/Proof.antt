use borrow.Author.Rules.{rules}
use Rattle.reader.proofs.Laws.{to_passed}
use Rattle.reader.proofs.word_taken.Statement.{statement}
use Rattle.reader.proofs.word_taken.Tie as tie

pub word_taken_spec : {M : Type 1} → statement M
word_taken_spec =
    tie.close
    (tie.spec (λ c κs. search rules) (λ c. search rules) (λ c κs. search rules) (λ c. search rules) (λ c κs. search rules)
    (λ c κs. search rules) (λ c κs. search rules) (λ c. search (rules, to_passed)))
