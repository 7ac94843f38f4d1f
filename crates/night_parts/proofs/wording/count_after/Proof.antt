-- `night_parts::wording::count_after` meets its contract.
use borrow.Author.Rules.{rules}
use Rattle.night_parts.proofs.Hosts.{to_count}
use Rattle.night_parts.proofs.wording.count_after.Statement.{statement}
use Rattle.night_parts.proofs.wording.count_after.Tie as tie

pub count_after_spec : {M : Type 1} → statement M
count_after_spec =
    tie.close
    (tie.spec (λ c. search rules) (λ c. search rules) (λ c. search rules) (λ c. search (rules, to_count)) (λ c. search (rules, to_count)))
