-- `same_word` meets its contract: both results are the definition's.
use borrow.Author.Rules.{rules}
use Rattle.crc16_wide.proofs.Same.{both}
use Rattle.crc16_wide.proofs.same_word.Statement.{statement}
use Rattle.crc16_wide.proofs.same_word.Tie as tie

pub same_word_spec : {M : Type 1} → statement M
same_word_spec = tie.close (tie.spec (λ c κs. search rules) (λ c κs. search rules) (λ c. search (rules, both)))
