-- `night_parts::ticking::ticks` meets its contract: the events done so far.
use borrow.Author.Rules.{rules}
use Prim.Native.Nat.{◌-◌}
use Rattle.listing.specs.Run.{Gone}
use Rattle.listing.proofs.Laws.{begins, host_now, ahead}
use Rattle.night_parts.proofs.Single.{to_last, to_other, record_now, tx_same, rx_same}
use Rattle.night_parts.proofs.Hushed.{hushed, unhushed_room, unhushed_tick}
use Rattle.night_parts.proofs.ticking.ticks.Statement.{statement}
use Rattle.night_parts.proofs.ticking.ticks.Tie as tie

abbrev invariant-loop : tie.invariant-loop-k
invariant-loop tx₀ rx₀ records results₀ from many b₀ k₀ tx rx results b k = Gone records many from b₀ tx₀ rx₀ results₀ k b tx rx results

abbrev decreases-loop : tie.decreases-loop-k
decreases-loop tx₀ rx₀ records results₀ from many b₀ k₀ tx rx results b k = many - k

pub ticks_spec : {M : Type 1} → statement M
ticks_spec =
    tie.close
    (tie.spec invariant-loop decreases-loop (λ c. search (rules, begins)) (λ c. search rules) (λ c κs. search (rules, record_now))
    (λ c. search (rules, tx_same)) (λ c. search (rules, rx_same)) (λ c. search rules) (λ c. search (rules, to_other))
    (λ c κs. search (rules, host_now, ahead)) (λ c κs. search rules) (λ c. search rules) (λ c. search (rules, hushed))
    (λ c κs. search (rules, record_now)) (λ c κs. search rules)
    (λ c κs. search (rules, unhushed_room))
    (λ c. search rules)
    (λ c. let v = c.loop-k.invariant in let w = c.run-g.ensures in let l = c.if-k-to.false in let h = c.loop-k-test.true in let x = c.kind_at.ensures in let i = c.if-kind_at-ne3.false in let n = c.bit_at-sin.ensures in let o = c.turn-answer.ensures in let u = c.put.ensures in search (rules, unhushed_tick))
    (λ c. search (rules, tx_same)) (λ c. search (rules, rx_same)) (λ c. search rules) (λ c. search (rules, to_last)))
