-- What a tick hears marks and frees only places that have begun. Assumes nothing.
use mathlib.Core.Path.{◌≡◌}
use mathlib.Core.Bool.{Bool, true, ◌&&◌}
use Prim.Native.Nat.{ℕ, ◌<◌}
use borrow.Author.Tests.{ltb-true}
use Rattle.base.specs.Pick.{pick_keeps, and_r}
use Rattle.line.specs.declared.Ear.{Ear}
use Rattle.line.specs.declared.Found.{Found}
use Rattle.line.specs.declared.Found.TheVariants.{Nothing, Start, Word, End, CheckError, Over}
use Rattle.registers.specs.declared.Flags.{Flags}
use Rattle.state.specs.Queue.{claimed}
use Rattle.state.specs.declared.Queue.{Queue}
use Rattle.state.specs.declared.Receiving.{Receiving}
use Rattle.state.specs.declared.Returned.{Returned}
use Rattle.reader.specs.Reader.{is_claim, word_read, error_read, end_read, word_taken, ended, taken_by, tick_reader}
use Rattle.reader.specs.declared.Taken.{Taken}
use Rattle.order.proofs.Waiting.{QueueOk, Leaves, leaves_all, leaves_set, leaves_returned}

module _ (q : Queue) (k : QueueOk q) where
  claims : (belongs : Bool) → (belongs && is_claim q) ≡ true → claimed q < q.begun
  claims belongs t = ltb-true _ _ (and_r belongs (is_claim q) t)

  leaves_word : (belongs : Bool) (w : ℕ) → Leaves q (word_read belongs q w)
  unfolding word_read
  leaves_word belongs w =
      pick_keeps (λ (r : Queue). Leaves q r) _ _ _ (λ t. leaves_set q (claimed q) _ k (claims belongs t)) (λ t. leaves_all q k)

  leaves_error : (belongs : Bool) → Leaves q (error_read belongs q)
  unfolding error_read
  leaves_error belongs =
      pick_keeps (λ (r : Queue). Leaves q r) _ _ _ (λ t. leaves_set q (claimed q) _ k (claims belongs t)) (λ t. leaves_all q k)

  leaves_end : (belongs : Bool) → Leaves q (end_read belongs q).queue
  unfolding end_read
  leaves_end belongs =
      pick_keeps (λ (r : Returned). Leaves q r.queue) _ _ _ (λ t. leaves_returned q (claimed q) _ k (claims belongs t))
      (λ t. leaves_all q k)

  module _ (r : Receiving) (f : Flags) (e : Ear) where
    leaves_taken_word : (w : ℕ) → Leaves q (word_taken r q f e w).queue
    unfolding word_taken
    leaves_taken_word w =
        let v = leaves_word r.reader.belongs w in
        pick_keeps (λ (t : Taken). Leaves q t.queue) _ _ _
        (λ s. pick_keeps (λ (t : Taken). Leaves q t.queue) _ _ _ (λ c. v) (λ c. v)) (λ s. v)

    leaves_taken : (found : Found) → Leaves q (taken_by found r q f e).queue
    unfolding taken_by ended
    leaves_taken Nothing = leaves_all q k
    leaves_taken Start = leaves_all q k
    leaves_taken (Word w) = leaves_taken_word w
    leaves_taken (CheckError n) = leaves_error r.reader.belongs
    leaves_taken End = leaves_end r.reader.belongs
    leaves_taken Over = leaves_end r.reader.belongs

pub leaves_heard : (r : Receiving) (q : Queue) (f : Flags) (sin : Bool) → QueueOk q → Leaves q (tick_reader r q f sin).queue
unfolding tick_reader
leaves_heard r q f sin k = leaves_taken q k r f _ _
