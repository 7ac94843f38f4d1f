-- `playing::ahead` meets its contract: what was counted, and what is ahead of what is left.
use Prim.Native.Nat.{◌-◌}
use borrow.Author.Rules.{rules}
use Rattle.playing.proofs.Counting.{Counted, count_begins, count_all, count_cut, count_bad, count_again}
use Rattle.playing.proofs.ahead.Statement.{statement}
use Rattle.playing.proofs.ahead.Tie as tie

abbrev invariant-loop : tie.invariant-loop-k
invariant-loop records left₀ k₀ left k = Counted records left k

abbrev decreases-loop : tie.decreases-loop-k
decreases-loop records left₀ k₀ left k = 64 - k

pub ahead_spec : {M : Type 1} → statement M
ahead_spec =
    tie.close
    (tie.spec invariant-loop decreases-loop (λ c. search (rules, count_begins)) (λ c. search (rules, count_cut)) (λ c κs. search rules) (λ c. search rules)
    (λ c. search rules) (λ c. search rules) (λ c. search rules) (λ c. search rules) (λ c. search (rules, count_again))
    (λ c. search (rules, count_bad)) (λ c. search (rules, count_all)))
