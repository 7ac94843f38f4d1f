-- `playing::print` meets its contract: the lines left are printed from here.
use lib.ListN.{length}
use borrow.Author.Rules.{rules}
use Rattle.playing.proofs.Printed.{Printed, print_begins, print_place, print_text, print_room, print_short, print_fits, print_again}
use Rattle.playing.proofs.print.Statement.{statement}
use Rattle.playing.proofs.print.Tie as tie

abbrev invariant-loop : tie.invariant-loop-left
invariant-loop records results out₀ at left₀ given₀ next₀ out left given next = Printed records results out₀ at out left given next

abbrev decreases-loop : tie.decreases-loop-left
decreases-loop records results out₀ at left₀ given₀ next₀ out left given next = length left

pub print_spec : {M : Type 1} → statement M
print_spec =
    tie.close
    (tie.spec invariant-loop decreases-loop (λ c. search (rules, print_begins)) (λ c κs. search (rules, print_room)) (λ c κs. search (rules, print_short, print_fits))
    (λ c. search rules) (λ c. search rules) (λ c. search rules) (λ c. search (rules, print_room)) (λ c. search (rules, print_room)) (λ c. search rules)
    (λ c. search rules) (λ c. search (rules, print_again)) (λ c. search rules) (λ c. search (rules, print_place, print_text)))
