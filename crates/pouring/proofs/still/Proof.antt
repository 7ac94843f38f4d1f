-- `pouring::still` meets its contract: the words done so far left the frame as it is.
use Prim.Native.Nat.{◌-◌}
use borrow.Author.Rules.{rules}
use Rattle.pouring.proofs.Runs.{Still, still_begins, still_more}
use Rattle.pouring.proofs.still.Statement.{statement}
use Rattle.pouring.proofs.still.Tie as tie

abbrev invariant-loop : tie.invariant-loop-k
invariant-loop bridge start records results₀ from many k₀ results k = Still records many bridge from results₀ k start results

abbrev decreases-loop : tie.decreases-loop-k
decreases-loop bridge start records results₀ from many k₀ results k = many - k

pub still_spec : {M : Type 1} → statement M
still_spec =
    tie.close
    (tie.spec invariant-loop decreases-loop (λ c. search (rules, still_begins)) (λ c. search rules) (λ c. search rules) (λ c. search rules)
    (λ c. search rules) (λ c. search rules) (λ c. search rules) (λ c. search rules) (λ c. search rules) (λ c. search rules)
    (λ c κs. search rules) (λ c κs. search rules) (λ c κs. search rules) (λ c κs. search rules) (λ c. search rules)
    (λ c. search (rules, still_more)) (λ c. search rules) (λ c. search rules) (λ c. search rules) (λ c. search rules))
