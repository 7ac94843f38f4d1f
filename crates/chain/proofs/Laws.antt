-- Laws of the definitions, in the form in which the functions' proofs ask them. Assumes nothing.
use mathlib.Core.Path.{◌≡◌, refl, sym, ◌∙◌, ap}
use mathlib.Core.Bool.{Bool, true, false, not}
use mathlib.Core.List.{List}
use Prim.Native.Nat.{ℕ, suc, ◌+◌, ◌-◌, ◌^◌, ◌%◌, ◌<◌, ◌≤◌}
use native.Mathlib.Nat.{mod-lt}
use native.Mathlib.Omega.{arith}
use lib.ListN.{length, get_or, set}
use borrow.Author.Tests.{eq-eqb, ne_eqb}
use Rattle.base.specs.Pick.{pick, pick_true, pick_false, pick_eq, pick_ne}
use Rattle.command.specs.Layouts.{Layouts, layouts}
use Rattle.state.specs.Facts.{SendFit}
use Rattle.state.specs.Rings.{oldest}
use Rattle.state.specs.declared.Bridge.{Bridge}
use Rattle.rules.specs.Sound.{sound}
use Rattle.rules.proofs.Facts.{host_fit}
use Rattle.next.specs.Next.{may_start, choose, bit_sent}
use Rattle.next.specs.declared.Next.{Next}
use Rattle.sender.specs.Sender.{sent_by, tick_sender}
use Rattle.ticks.specs.Ticks.{tick_ends, tick_hears, ticked as ticked_by}
use Rattle.events.specs.Events.{reacted}
use Rattle.events.specs.Turn.{Out, out, turned, turn}
use Rattle.events.specs.declared.Answer.{Answer}
use Rattle.events.specs.declared.Event.TheVariants.{Tick}
use Rattle.bridge.specs.Step.{step}
use Rattle.bridge.specs.Runs.{out_of, next}
use Rattle.drain.specs.Drain.{at_rest}
use Rattle.verdict.specs.Verdicts.{is_no_room, verdict_by, Verdict}
use Rattle.board.specs.Moments.{config}
use Rattle.chain.specs.Echo.{echo}
use Rattle.chain.specs.Chain.{Moment, moment, back, filled, onward, ticked, Gone, gone, gone_from}
use Rattle.chain.specs.Waits.{met, Waiting, waiting, wait_of, wait_from}
use Rattle.chain.specs.declared.Goal.{Goal}
use Rattle.chain.specs.declared.Goal.TheVariants.{Room, Sent}
use Rattle.chain.specs.declared.Ticked.{Ticked}

-- the bit that goes out does not ask the bit that comes in
pub sout_turn : (l : Layouts) (b : Bridge) (tx rx : List ℕ) (sin : Bool)
    → (turn l b tx rx (Tick sin)).answer.sout
    ≡ bit_sent (choose b.sending (may_start b.control)) b.sending.sender (oldest tx b.sending.tx)
unfolding turn turned reacted ticked_by tick_hears tick_ends tick_sender sent_by
sout_turn l b tx rx sin = refl

-- what a tick sends, by the tests of `step`
abbrev bit_of : Out → Bool
bit_of o = o.answer.sout

module _ (b : Bridge) (tx rx : List ℕ) where
  pub to_wrong_tx : (length tx ≡ 512 → ⊥) → true ≡ echo layouts (config b tx rx)
  unfolding echo out_of step
  to_wrong_tx h = ap bit_of (pick_ne _ _ _ _ _ h refl)

  pub to_wrong_rx : length tx ≡ 512 → (length rx ≡ 256 → ⊥) → true ≡ echo layouts (config b tx rx)
  unfolding echo out_of step
  to_wrong_rx h k = ap bit_of (pick_eq _ _ _ _ _ h (pick_ne _ _ _ _ _ k refl))

  module _ (h : length tx ≡ 512) (k : length rx ≡ 256) (t : Bool) (s : t ≡ sound b) where
    pub to_broken : t ≡ false → true ≡ echo layouts (config b tx rx)
    unfolding echo out_of step
    to_broken f = ap bit_of (pick_eq _ _ _ _ _ h (pick_eq _ _ _ _ _ k (pick_false _ _ _ _ (sym s ∙ f) refl)))

    pub to_bit : t ≡ true → (may : Bool) (kind : Next) (bit : Bool) → may ≡ may_start b.control → kind ≡ choose b.sending may
        → bit ≡ bit_sent kind b.sending.sender (get_or tx b.sending.tx.head 0) → bit ≡ echo layouts (config b tx rx)
    unfolding echo out_of step
    to_bit f may kind bit m c e =
        e
        ∙ ap (λ (n : Next). bit_sent n b.sending.sender (oldest tx b.sending.tx)) (c ∙ ap (choose b.sending) m)
        ∙ sym (sout_turn layouts b tx rx true)
        ∙ ap bit_of (pick_eq _ _ _ _ _ h (pick_eq _ _ _ _ _ k (pick_true _ _ _ _ (sym s ∙ f) refl)))

-- a record that obeys the rules: what `choose` asks, and the cell that is read
pub may_choose : (b : Bridge) (t : Bool) → t ≡ sound b → t ≡ true → SendFit b.sending
may_choose b t s f = (host_fit b (sym s ∙ f)).sending

-- the chain, by whether it has cells
module _ (chain : List Bool) (at : ℕ) (sout : Bool) where
  module _ (z : length chain ≡ 0) where
    pub straight_back : sout ≡ back chain at sout
    unfolding back
    straight_back = pick_eq _ _ _ _ _ z refl

    pub straight_onward : at ≡ onward chain at
    unfolding onward
    straight_onward = pick_eq _ _ _ _ _ z refl

    pub straight_filled : chain ≡ filled chain at sout
    unfolding filled
    straight_filled = pick_eq _ _ _ _ _ z refl

  module _ (z : length chain ≡ 0 → ⊥) where
    pub chained_back : get_or chain (at % length chain) false ≡ back chain at sout
    unfolding back
    chained_back = pick_ne _ _ _ _ _ z refl

    pub chained_onward : (at % length chain + 1) % length chain ≡ onward chain at
    unfolding onward
    chained_onward = pick_ne _ _ _ _ _ z refl

    pub chained_filled : set chain (at % length chain) sout ≡ filled chain at sout
    unfolding filled
    chained_filled = pick_ne _ _ _ _ _ z refl

-- a tick, by what `sout`, `pass` and `step` gave
pub to_ticked : (b : Bridge) (tx rx : List ℕ) (chain : List Bool) (at : ℕ) (sout sin : Bool) (on : ℕ) (ch : List Bool) (a : Answer) (t r : List ℕ)
    → sout ≡ echo layouts (config b tx rx) → sin ≡ back chain at sout → on ≡ onward chain at → ch ≡ filled chain at sout
    → out a t r ≡ step layouts b tx rx (Tick sin)
    → gone (record { bridge = a.state; oldest = on; sout = sout }) t r ch ≡ gone_from (moment b tx rx chain at)
unfolding ticked next out_of
to_ticked b tx rx chain at sout sin on ch a t r h p q f e =
    rw (← h, f, q)
    (ap (λ (o : Out). gone (record { bridge = o.answer.state; oldest = onward chain at; sout = sout }) o.tx o.rx (filled chain at sout)) (rw p at e))

-- an arm knows the goal
module _ (goal : Goal) (b : Bridge) (tx rx : List ℕ) where
  pub to_room : (slot words : ℕ) (v : Verdict) (t : Bool) → goal ≡ Room slot words → v ≡ verdict_by (length tx) (length rx) b slot words
      → t ≡ is_no_room v → not t ≡ met goal (config b tx rx)
  unfolding met
  to_room slot words v t g h k = rw (g, k, h)

  pub to_sent : (t : Bool) → goal ≡ Sent → t ≡ at_rest b → t ≡ met goal (config b tx rx)
  unfolding met
  to_sent t g h = rw (g, h)

-- what is left of a wait is the whole wait
pub begins : (budget : ℕ) (goal : Goal) (m : Moment) → wait_of (budget - 0) goal (waiting m 0 true) ≡ wait_from budget goal m
begins budget goal m = let z : budget - 0 ≡ budget = omega arith in ap (λ (n : ℕ). wait_of n goal (waiting m 0 true)) z

module _ (budget : ℕ) (goal : Goal) (m : Moment) (b : Bridge) (tx rx : List ℕ) (chain : List Bool) (at ticks : ℕ) (bit : Bool) where
  abbrev now : Waiting
  now = waiting (moment b tx rx chain at) ticks bit

  module _ (v : wait_of (budget - ticks) goal now ≡ wait_from budget goal m) where
    less : ticks < budget → wait_of (budget - ticks) goal now ≡ wait_of (suc (budget - (ticks + 1))) goal now
    less h = let z : budget - ticks ≡ suc (budget - (ticks + 1)) = omega arith in ap (λ (n : ℕ). wait_of n goal now) z

    pub to_met : ticks < budget → (i : Bool) → i ≡ met goal (config b tx rx) → i ≡ true → now ≡ wait_from budget goal m
    unfolding wait_of
    to_met h i p q = pick_true _ _ _ _ (sym p ∙ q) refl ∙ sym (less h) ∙ v

    pub again : ticks < budget → (i : Bool) → i ≡ met goal (config b tx rx) → i ≡ false → (r : Ticked) (t u : List ℕ) (ch : List Bool)
        → gone r t u ch ≡ gone_from (moment b tx rx chain at)
        → wait_of (budget - (ticks + 1)) goal (waiting (moment r.bridge t u ch r.oldest) (ticks + 1) r.sout) ≡ wait_from budget goal m
    unfolding wait_of
    again h i p q r t u ch e =
        ap (λ (g : Gone). wait_of (budget - (ticks + 1)) goal (waiting g.moment (ticks + 1) g.sout)) e
        ∙ pick_false _ _ _ _ (sym p ∙ q) refl
        ∙ sym (less h)
        ∙ v

    pub to_budget : budget ≤ ticks → ticks ≤ budget → waiting (moment b tx rx chain at) budget bit ≡ wait_from budget goal m
    unfolding wait_of
    to_budget h k =
        let e : budget ≡ ticks = omega arith in
        let z : budget - ticks ≡ 0 = omega arith in
        ap (λ (n : ℕ). waiting (moment b tx rx chain at) n bit) e ∙ sym (ap (λ (n : ℕ). wait_of n goal now) z) ∙ v
