-- `night_parts::wording::words` meets its contract: the events done so far. Where no word was poured, the run so far is `unpoured`.
use borrow.Author.Rules.{rules}
use Prim.Native.Nat.{◌-◌}
use Rattle.listing.specs.Run.{Gone}
use Rattle.listing.proofs.Laws.{begins, host_now, ahead}
use Rattle.pouring.proofs.Laws.{poured_on_lem, unpoured}
use Rattle.night_parts.proofs.Single.{to_last, to_other, record_now, room_now, tx_same}
use Rattle.night_parts.proofs.Hosts.{tx_fits, tx_few, rx_fits, rx_head, performable, word_done, word_left}
use Rattle.night_parts.proofs.Moves.{move_again}
use Rattle.night_parts.proofs.wording.words.Statement.{statement}
use Rattle.night_parts.proofs.wording.words.Tie as tie

abbrev invariant-loop : tie.invariant-loop-k
invariant-loop tx₀ rx records results₀ from many b₀ k₀ tx results b k = Gone records many from b₀ tx₀ rx results₀ k b tx rx results

abbrev decreases-loop : tie.decreases-loop-k
decreases-loop tx₀ rx records results₀ from many b₀ k₀ tx results b k = many - k

pub words_spec : {M : Type 1} → statement M
words_spec =
    tie.close
    (tie.spec invariant-loop decreases-loop (λ c. search (rules, begins)) (λ c. search rules) (λ c κs. search (rules, record_now)) (λ c κs. search rules)
    (λ c κs. search rules) (λ c κs. search rules)
    (λ c κs. let v = c.loop-k.invariant in let h = c.loop-k-test.true in search (rules, room_now))
    (λ c. let h = c.loop-k-test.true in search rules)
    (λ c. let v = c.loop-k.invariant in let h = c.loop-k-test.true in let x = c.kind_at-kind.ensures in let m = c.moved-m.ensures in let y = c.if-moves.true in let o = c.settled-settled.ensures in let n = c.mark_after-mark.ensures in let u = c.put.ensures in search (rules, move_again))
    (λ c. search (rules, tx_same)) (λ c. search rules) (λ c. search (rules, to_other)) (λ c κs. search (rules, record_now))
    (λ c κs. search (rules, host_now, ahead)) (λ c κs. search rules)
    (λ c. let h = c.loop-k-test.true in let l = c.if-k-to.true in search rules)
    (λ c. let v = c.loop-k.invariant in let w = c.run-g.ensures in let l = c.if-k-to.true in search (rules, poured_on_lem))
    (λ c. search rules) (λ c. search rules)
    (λ c. let v = unpoured _ _ _ _ _ _ _ _ _ _ _ _ c.loop-k.invariant _ _ _ _ c.run-g.ensures c.if-k-to.false in search (rules, rx_head))
    (λ c κs. let v = unpoured _ _ _ _ _ _ _ _ _ _ _ _ c.loop-k.invariant _ _ _ _ c.run-g.ensures c.if-k-to.false in search (rules, host_now))
    (λ c κs. search rules)
    (λ c κs. let v = unpoured _ _ _ _ _ _ _ _ _ _ _ _ c.loop-k.invariant _ _ _ _ c.run-g.ensures c.if-k-to.false in let h = c.loop-k-test.true in search (rules, room_now))
    (λ c κs. let v = unpoured _ _ _ _ _ _ _ _ _ _ _ _ c.loop-k.invariant _ _ _ _ c.run-g.ensures c.if-k-to.false in search (rules, tx_fits))
    (λ c κs. search rules)
    (λ c κs. performable _ _ _ _ _ _ _ _ _ _ _ _ (unpoured _ _ _ _ _ _ _ _ _ _ _ _ c.loop-k.invariant _ _ _ _ c.run-g.ensures c.if-k-to.false) _ _ c.planned-plan.ensures)
    (λ c. let h = c.loop-k-test.true in search rules)
    (λ c. let v = unpoured _ _ _ _ _ _ _ _ _ _ _ _ c.loop-k.invariant _ _ _ _ c.run-g.ensures c.if-k-to.false in let h = c.loop-k-test.true in let x = c.kind_at-kind.ensures in let i = c.if-kind-ne1.false in let r = c.value_at-word.ensures in let p = c.planned-plan.ensures in let m = c.marked-clock.ensures in let u = c.put-in-loop-k.ensures in let t = c.write_cell.ensures in let d = c.performed-b.ensures in search (rules, word_done))
    (λ c κs. let v = unpoured _ _ _ _ _ _ _ _ _ _ _ _ c.loop-k.invariant _ _ _ _ c.run-g.ensures c.if-k-to.false in search (rules, tx_few))
    (λ c κs. let v = unpoured _ _ _ _ _ _ _ _ _ _ _ _ c.loop-k.invariant _ _ _ _ c.run-g.ensures c.if-k-to.false in search (rules, rx_fits))
    (λ c κs. search rules) (λ c κs. search rules) (λ c κs. search rules)
    (λ c. let h = c.loop-k-test.true in search rules)
    (λ c. let v = unpoured _ _ _ _ _ _ _ _ _ _ _ _ c.loop-k.invariant _ _ _ _ c.run-g.ensures c.if-k-to.false in let h = c.loop-k-test.true in let x = c.kind_at-kind.ensures in let i = c.if-kind-ne1.false in let r = c.value_at-word.ensures in let p = c.planned-plan.ensures in let m = c.marked-clock.ensures in let u = c.put-in-loop-k.ensures in let t = c.write_cell.ensures in let a = c.acts.ensures in let f = c.if-acts.false in let n = c.count_after-count.ensures in let g = c.received-receiving.ensures in let o = c.settled-control.ensures in let d = c.concluded-ended.ensures in let e = c.xmodem_after-xmodem.ensures in search (rules, word_left))
    (λ c. search (rules, tx_same)) (λ c. search rules) (λ c. search (rules, to_last)))
