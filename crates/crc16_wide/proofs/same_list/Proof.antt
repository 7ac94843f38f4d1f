-- `same_list` meets its contract: both results are the definition's.
use borrow.Author.Rules.{rules}
use Rattle.crc16_wide.proofs.Same.{both}
use Rattle.crc16_wide.proofs.same_list.Statement.{statement}
use Rattle.crc16_wide.proofs.same_list.Tie as tie

pub same_list_spec : {M : Type 1} → statement M
same_list_spec = tie.close (tie.spec (λ c κs. search rules) (λ c κs. search rules) (λ c. search (rules, both)))
