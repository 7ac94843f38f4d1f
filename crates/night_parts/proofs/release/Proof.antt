-- `night_parts::release` meets its contract.
use borrow.Author.Rules.{rules}
use Rattle.night_parts.proofs.Single.{lent_room, lent_release}
use Rattle.night_parts.proofs.Moves.{release_part}
use Rattle.night_parts.proofs.release.Statement.{statement}
use Rattle.night_parts.proofs.release.Tie as tie

pub release_spec : {M : Type 1} → statement M
release_spec =
    tie.close
    (tie.spec (λ c κs. search rules) (λ c κs. search rules) (λ c κs. search (rules, lent_room)) (λ c. search rules) (λ c. search rules)
    (λ c. let p = c.requires in let m = c.moved-m.ensures in let y = c.if-moves.true in let o = c.settled-settled.ensures in let u = c.put.ensures in search (rules, release_part))
    (λ c κs. search (rules, lent_release)) (λ c. search rules) (λ c. search rules) (λ c. search rules) (λ c. search rules))
