-- A bridge at rest, with nothing under way in the chain, is in tune and has nothing to settle. Assumes nothing.
use mathlib.Core.Path.{◌≡◌, refl, sym, subst}
use mathlib.Core.Bool.{Bool, true}
use mathlib.Core.List.{List, [], ◌∷◌, ◌++◌}
use mathlib.Core.Logic.{inr}
use Prim.Native.Nat.{ℕ, zero, suc, ◌+◌, ◌%◌}
use native.Mathlib.Omega.{arith}
use lib.ListN.{length, take, drop, replicate}
use borrow.Author.Tests.{le-ltb}
use Rattle.base.specs.Pick.{pick}
use Rattle.command.specs.Layouts.{layouts}
use Rattle.state.specs.Sending.{idle}
use Rattle.state.specs.declared.Sender.{Sender}
use Rattle.state.specs.declared.Sending.{Sending}
use Rattle.kept.proofs.Fits.{layouts_fit}
use Rattle.drain.proofs.Ticks.{remaining, sent_all, rest_none}
use Rattle.bridge.proofs.Reached.{Obeys}
use Rattle.echoes.proofs.Hearing.{out, idle_left}
use Rattle.echoes.proofs.Paths.{Path, here, calm}
use Rattle.echoes.proofs.Counts.{unread, unread_below}
use Rattle.echoes.proofs.Ticks.{Tuned, send_rules}
use Rattle.echoes.proofs.Settling.{to_settle}
use Rattle.chain.specs.Chain.{Moment}
use Rattle.forty.specs.Ends.{AtRest}
use Rattle.forty.specs.Traces.{under}
use Rattle.forty.proofs.Waits.{InTune, settling}

-- bits that are all 1
abbrev Ones : List Bool → Type 0
Ones [] = Unit {0}
Ones (b ∷ bs) = (b ≡ true) × Ones bs

ones_replicate : (n : ℕ) → Ones (replicate n true)
ones_replicate zero = tt
ones_replicate (suc n) = (refl, ones_replicate n)

ones_append : (xs ys : List Bool) → Ones xs → Ones ys → Ones (xs ++ ys)
ones_append [] ys a b = b
ones_append (x ∷ xs) ys a b = (a.0, ones_append xs ys a.1 b)

ones_drop : (n : ℕ) (xs : List Bool) → Ones xs → Ones (drop n xs)
ones_drop zero xs a = a
ones_drop (suc n) [] a = tt
ones_drop (suc n) (x ∷ xs) a = ones_drop n xs a.1

ones_take : (n : ℕ) (xs : List Bool) → Ones xs → Ones (take n xs)
ones_take zero xs a = tt
ones_take (suc n) [] a = tt
ones_take (suc n) (x ∷ xs) a = (a.0, ones_take n xs a.1)

ones_under : (cells : List Bool) (oldest : ℕ) → Ones cells → Ones (under cells oldest)
unfolding under
ones_under [] oldest a = tt
ones_under (x ∷ xs) oldest a =
    let i : ℕ = oldest % length (x ∷ xs) in
    ones_append (drop i (x ∷ xs)) (take i (x ∷ xs)) (ones_drop i (x ∷ xs) a) (ones_take i (x ∷ xs) a)

-- the way of a sender that was idle all along
rest_path : (t : Sender) (bits : List Bool) → idle t ≡ true → Ones bits → Path t bits t 0 0
rest_path t [] i a = here t
rest_path t (b ∷ bits) i a = subst (λ (x : Bool). Path t (x ∷ bits) t 0 0) (sym a.0) (calm t t bits t 0 i i (rest_path t bits i a.1))

module _ (m : Moment) (o : Obeys m.at) (r : AtRest m) where
  abbrev s : Sending
  s = m.at.bridge.sending

  none_unread : unread s.queue ≡ 0 + 0
  unfolding unread_below
  none_unread = let b : s.queue.begun ≡ 0 = omega (arith, o.rules.sending.queue.order, r.none_queued) in rw b refl

  rest_tuned : Tuned m.at (under m.chain m.oldest) 0
  rest_tuned =
      record {
        obeys = o;
        cells = r.cells;
        then = s.sender;
        inside = 0;
        others = 0;
        hears = out r.reader (idle_left s.sender r.sender) (inr r.sender);
        path = rest_path s.sender _ r.sender (ones_under m.chain m.oldest (rw r.chain_idle (ones_replicate (length m.chain))));
        count = none_unread;
        belongs = λ z. absurd (omega arith);
      }

  pub rest_in_tune : InTune m
  rest_in_tune = record { lag = 0; tuned = rest_tuned; free = r.free }

  pub rest_settled : settling m rest_in_tune ≡ 0
  unfolding to_settle pick rest_in_tune
  rest_settled =
      let a : sent_all s ≡ true = rw (r.sender, le-ltb s.queue.begun s.queue.used (omega (arith, r.none_queued))) refl in
      let z : remaining s ≡ 0 = rest_none s 0 0 (send_rules layouts layouts_fit m.at _ 0 rest_tuned r.free) a in
      rw z refl
