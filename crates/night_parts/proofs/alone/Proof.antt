-- `night_parts::alone` meets its contract.
use borrow.Author.Rules.{rules}
use Rattle.night_parts.proofs.Single.{lent_room, alone_part}
use Rattle.night_parts.proofs.alone.Statement.{statement}
use Rattle.night_parts.proofs.alone.Tie as tie

pub alone_spec : {M : Type 1} → statement M
alone_spec =
    tie.close
    (tie.spec (λ c κs. search rules) (λ c κs. search (rules, lent_room)) (λ c. search rules) (λ c. search rules) (λ c. search rules)
    (λ c. search rules) (λ c. search (rules, alone_part)))
