-- Draining (01 The line, "Draining"): "ticks with SIN 1 until the sender is idle and nothing may start, a note other than 0, or the budget's
-- end. The number of ticks made is returned, refused ones (1, 2) not counted." Assumes nothing.
use Rattle.std.specs.Prelude.{◌≡◌, Bool, true, not, ◌&&◌, List, ℕ, zero, suc, ◌+◌, ltb, eqb, length}
use Rattle.std.proofs.Common.{sym, ◌∙◌, ap}
use Rattle.base.specs.Pick.{pick}
use Rattle.command.specs.Layouts.{Layouts}
use Rattle.state.specs.Notes.{note_number}
use Rattle.state.specs.Rings.{tx_size, rx_size}
use Rattle.state.specs.Sending.{idle}
use Rattle.state.specs.declared.Bridge.{Bridge}
use Rattle.state.specs.declared.Note.{Note}
use Rattle.state.specs.declared.Note.TheVariants.{Done, WrongStores, BrokenRecord}
use Rattle.rules.specs.Sound.{sound}
use Rattle.next.specs.Next.{may_start}
use Rattle.events.specs.Turn.{Out, turn}
use Rattle.events.specs.declared.Event.TheVariants.{Tick}
use Rattle.drain.specs.declared.Drained.{Drained}

-- what draining returns, and both stores as it leaves them
pub record End : Type 0 where
  pub drained : Drained
  pub tx : List ℕ
  pub rx : List ℕ

abbrev pub end : Drained → List ℕ → List ℕ → End
end d tx rx = record { drained = d; tx = tx; rx = rx }

-- two results with their stores that satisfy one contract are the same
pub one_end : (e : End) (d f : Drained) (t u r s : List ℕ) → end d t r ≡ e → end f u s ≡ e → (d ≡ f) × ((t ≡ u) × (r ≡ s))
one_end e d f t u r s p q =
    (ap (λ (x : End). x.drained) (p ∙ sym q), (ap (λ (x : End). x.tx) (p ∙ sym q), ap (λ (x : End). x.rx) (p ∙ sym q)))

-- so many ticks made, stopped with this note
abbrev pub stopped : Bridge → List ℕ → List ℕ → ℕ → Note → End
stopped b tx rx ticks note = end (record { state = b; ticks = ticks; note = note }) tx rx

-- "the sender is idle and nothing may start": no place waits, or a start's conditions fail
abbrev pub at_rest : Bridge → Bool
at_rest b = idle b.sending.sender && not (may_start b.control && ltb b.sending.queue.begun b.sending.queue.used)

-- "ticks with SIN 1"
abbrev pub tick_on : Layouts → Bridge → List ℕ → List ℕ → Out
tick_on l b tx rx = turn l b tx rx (Tick true)

-- with this budget left, and so many ticks made so far. A tick with a note is made, so it counts.
unfoldable pub run_of : Layouts → ℕ → ℕ → Bridge → List ℕ → List ℕ → End
run_of l zero ticks b tx rx = stopped b tx rx ticks Done
run_of l (suc budget) ticks b tx rx =
    pick (at_rest b) (stopped b tx rx ticks Done)
    (pick (eqb (note_number (tick_on l b tx rx).answer.note) 0)
    (run_of l budget (ticks + 1) (tick_on l b tx rx).answer.state (tick_on l b tx rx).tx (tick_on l b tx rx).rx)
    (stopped (tick_on l b tx rx).answer.state (tick_on l b tx rx).tx (tick_on l b tx rx).rx (ticks + 1)
    (tick_on l b tx rx).answer.note))

-- Notes 1 and 2 come first, in this order, whatever the budget and also at rest: no tick is made, everything is as lent. 01 Notes
unfoldable pub drain : Layouts → Bridge → List ℕ → List ℕ → ℕ → End
drain l b tx rx budget =
    pick (eqb (length tx) tx_size)
    (pick (eqb (length rx) rx_size)
    (pick (sound b) (run_of l budget 0 b tx rx) (stopped b tx rx 0 BrokenRecord))
    (stopped b tx rx 0 WrongStores))
    (stopped b tx rx 0 WrongStores)
