-- `playing::group` meets its contract: the list call, by its outcome.
use mathlib.Core.Path.{refl}
use borrow.Author.Rules.{rules}
use Rattle.playing.proofs.Groups.{to_refused, to_done, results_room}
use Rattle.playing.proofs.group.Statement.{statement}
use Rattle.playing.proofs.group.Tie as tie

returns : tie.Need-returns-then-note-ne0
returns c =
    to_refused _ c.requires.0 _ _ _ _ refl _ _ _ _ c.night-listed.ensures _ c.number-note.ensures _ _ _ _ _ c.if-note-ne0.true
    c.print_refused-next.ensures.0 c.print_refused-next.ensures.1 c.made.ensures

print_requires : tie.Need-print-next-requires
print_requires c κs =
    (results_room _ c.requires.0 _ _ _ _ refl _ _ _ _ c.night-listed.ensures _ c.number-note.ensures c.if-note-ne0.false, search rules)

returns_2 : tie.Need-returns
returns_2 c =
    to_done _ c.requires.0 _ _ _ _ refl _ _ _ _ c.night-listed.ensures _ c.number-note.ensures _ _ _ _ _ c.if-note-ne0.false
    c.print-next.ensures.0 c.print-next.ensures.1 c.made-2.ensures

pub group_spec : {M : Type 1} → statement M
group_spec =
    tie.close
    (tie.spec (λ c. search rules) (λ c κs. search rules) (λ c κs. search rules) (λ c κs. search rules) (λ c κs. search rules) (λ c. search rules)
    (λ c. search rules) (λ c. search rules) returns (λ c. search rules) print_requires (λ c κs. search rules) (λ c. search rules) (λ c. search rules)
    (λ c. search rules) returns_2)
