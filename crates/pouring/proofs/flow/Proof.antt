-- `pouring::flow` meets its contract: the words done so far were poured.
use Prim.Native.Nat.{◌-◌}
use borrow.Author.Rules.{rules}
use Rattle.pouring.specs.Poured.{Poured}
use Rattle.pouring.proofs.Words.{fits, more_comes}
use Rattle.pouring.proofs.Runs.{pour_begins, pour_more}
use Rattle.pouring.proofs.flow.Statement.{statement}
use Rattle.pouring.proofs.flow.Tie as tie

abbrev invariant-loop : tie.invariant-loop-k
invariant-loop bridge bed tx₀ records results₀ from many s₀ k₀ tx results s k = Poured records many bridge from tx₀ results₀ k s tx results

abbrev decreases-loop : tie.decreases-loop-k
decreases-loop bridge bed tx₀ records results₀ from many s₀ k₀ tx results s k = many - k

pub flow_spec : {M : Type 1} → statement M
flow_spec =
    tie.close
    (tie.spec invariant-loop decreases-loop (λ c. search (rules, pour_begins)) (λ c. search rules) (λ c. search rules) (λ c. search rules)
    (λ c. search rules) (λ c. search rules) (λ c. search rules) (λ c κs. search rules) (λ c κs. search (rules, more_comes))
    (λ c. search (rules, fits)) (λ c. search rules) (λ c. search rules) (λ c. search rules) (λ c. search rules)
    (λ c κs. search rules) (λ c. search rules) (λ c. search rules) (λ c. search rules) (λ c κs. search rules)
    (λ c κs. search rules)
    (λ c. search rules)
    (λ c. search rules)
    (λ c κs. search rules)
    (λ c. search rules)
    (λ c.
    let p = c.requires in
    let v = c.loop-k.invariant in
    let h = c.loop-k-test.true in
    let i = c.if-records-at-ne1.false in
    search (rules, pour_more))
    (λ c. search rules) (λ c. search rules) (λ c. search rules) (λ c. search rules) (λ c. search rules) (λ c. search rules))
