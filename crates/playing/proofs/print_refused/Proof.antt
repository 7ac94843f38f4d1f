-- `playing::print_refused` meets its contract: the lines left are printed from here.
use lib.ListN.{length}
use borrow.Author.Rules.{rules}
use Rattle.playing.proofs.Printed.{PrintedRefused, refused_begins, refused_place, refused_text, refused_short, refused_fits, refused_again}
use Rattle.playing.proofs.print_refused.Statement.{statement}
use Rattle.playing.proofs.print_refused.Tie as tie

abbrev invariant-loop : tie.invariant-loop-left
invariant-loop records note out₀ at left₀ next₀ out left next = PrintedRefused note records out₀ at out left next

abbrev decreases-loop : tie.decreases-loop-left
decreases-loop records note out₀ at left₀ next₀ out left next = length left

loop_again : tie.Need-loop-left-preserved invariant-loop decreases-loop
loop_again c =
    refused_again _ _ _ _ _ _ _ c.loop-left.invariant c.loop-left-test.true _ c.value-value.ensures _ c.printed-line.ensures _ _ c.put-next.ensures.1 c.put-next.ensures.0

pub print_refused_spec : {M : Type 1} → statement M
print_refused_spec =
    tie.close
    (tie.spec invariant-loop decreases-loop (λ c. search (rules, refused_begins)) (λ c. search rules) (λ c. search rules) (λ c κs. search rules) (λ c. search rules)
    (λ c κs. search rules) (λ c κs. search (rules, refused_short, refused_fits)) (λ c. search rules) (λ c. search rules) (λ c. search rules)
    (λ c. search rules) loop_again (λ c. search rules) (λ c. search (rules, refused_place, refused_text)))
