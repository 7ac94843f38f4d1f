-- The accepted commands stand in what the host sent, whatever the events: no premise of demand 3 is used.
use mathlib.Core.Path.{◌≡◌, refl, ◌∙◌, ap}
use mathlib.Core.Bool.{Bool, true, false}
use mathlib.Core.List.{List, [], ◌∷◌, ◌++◌, append_assoc, append-nil}
use Prim.Native.Nat.{ℕ, zero, suc}
use native.Mathlib.Omega.{arith}
use lib.ListN.{length, get_or, drop, length-append}
use Rattle.layout.specs.declared.Layout.{Layout}
use Rattle.layout.specs.declared.Layout.TheVariants.{Ours}
use Rattle.base.specs.Pick.{pick, pick_keeps}
use Rattle.command.specs.Layouts.{Layouts, layouts}
use Rattle.command.specs.declared.Command.{Command}
use Rattle.registers.specs.declared.Control.{Control}
use Rattle.state.specs.Power.{power_up_in, power_up_bad_in}
use Rattle.state.specs.declared.Bridge.{Bridge}
use Rattle.state.specs.declared.Deed.{Deed}
use Rattle.state.specs.declared.Deed.TheVariants.{Leave}
use Rattle.state.specs.declared.Phase.{Phase}
use Rattle.state.specs.declared.Phase.TheVariants.{Idle, Collecting, Answering, Discarding}
use Rattle.host.specs.Frames.{planned}
use Rattle.release.specs.Release.{released_in}
use Rattle.release.specs.Release.{cut_deed, cut}
use Rattle.plan.specs.Plan.{concluded, performed}
use Rattle.kept.proofs.Fits.{LayoutFit, layouts_fit}
use Rattle.events.specs.Events.{powered, reacted}
use Rattle.ticks.specs.Ticks.{phase_after, tick_ends, tick_hears, ticked}
use Rattle.clock.specs.Clock.{clocked}
use Rattle.events.specs.Turn.{turned, turn}
use Rattle.events.specs.declared.Event.{Event}
use Rattle.events.specs.declared.Event.TheVariants.{Power, Word, Release, Tick, Clock as ClockReading}
use Rattle.bridge.specs.Runs.{Config, RightStores, next, power_on}
use Rattle.bridge.proofs.Reached.{Obeys, obeyed_turn, step_obeys, power_obeys}
use Rattle.order.specs.Accepted.{plan_of, Log, no_log, came, accepts, collects, settle, logged, log_by, listed, accepted_in}
use Rattle.order.specs.Framed.{word_of, host_words, layout_at, spoken_in, Framed, start}
use Rattle.order.proofs.Behind.{Shut, Stands, framed_over, framed_listed, same, blocks}
use Rattle.order.proofs.HostWords.{AfterBy, closes, word_after}

cut_accepts_none : (command : Command) (got mine : ℕ) (released : Bool) → accepts (cut_deed command got mine released) ≡ false
unfolding cut_deed accepts
cut_accepts_none command got mine released =
    pick_keeps (λ (d : Deed). accepts d ≡ false) _ _ _ (λ t. pick_keeps (λ (d : Deed). accepts d ≡ false) _ _ _ (λ u. refl) (λ u. refl)) (λ t. refl)

release_after : (l : Layouts) (spoken : List Layout) (b : Bridge) (g : Log) (hs : List ℕ) (ph : Phase) → Stands l spoken ph g hs → AfterBy l spoken g hs (released_in b ph)
unfolding released_in cut accepts
release_after l spoken b g hs Idle h = closes l spoken b g hs _ false (framed_over l spoken g hs Idle h Leave refl)
release_after l spoken b g hs (Collecting command got sum mine released blocked) h =
    closes l spoken b g hs _ false
    (framed_over l spoken g hs (Collecting command got sum mine released blocked) h (cut_deed command got mine released) (cut_accepts_none command got mine released))
release_after l spoken b g hs (Answering reply sum) h = closes l spoken b g hs _ false (framed_over l spoken g hs (Answering reply sum) h Leave refl)
release_after l spoken b g hs Discarding h = closes l spoken b g hs _ false (framed_over l spoken g hs Discarding h Leave refl)

-- the phase after a plan: what answers STATUS is no frame either
stands_concluded : (l : Layouts) (spoken : List Layout) (xmodem status : Bool) (c : Control) (ph : Phase) (g : Log) (hs : List ℕ) → (status ≡ true → ph ≡ Idle)
    → Stands l spoken ph g hs → Stands l spoken (concluded l xmodem status c ph) g hs
unfolding concluded Stands
stands_concluded l spoken xmodem status c ph g hs e h =
    pick_keeps (λ (q : Phase). Stands l spoken q g hs) _ _ _
    (λ t. pick_keeps (λ (q : Phase). Stands l spoken q g hs) _ _ _ (λ u. rw (e t) at h) (λ u. rw (e t) at h)) (λ t. h)

power_idle : (l : Layouts) (spoken : List Layout) (good : Bool) (layout : Layout) (g : Log) (hs : List ℕ) → Shut l spoken g hs → Stands l spoken (powered good layout).frame.phase g hs
unfolding powered pick power_up_in power_up_bad_in Stands
power_idle l spoken true layout g hs h = h
power_idle l spoken false layout g hs h = h

module _ (l : Layouts) (spoken : List Layout) (c : Config) (g : Log) (hs : List ℕ) (h : Stands l spoken c.bridge.frame.phase g hs) where
  event_after : (e : Event) → ((w : ℕ) → e ≡ Word w → get_or spoken (length hs) Ours ≡ c.bridge.control.regs.layout)
      → Stands l spoken (turn l c.bridge c.tx c.rx e).answer.state.frame.phase (logged g (plan_of l c e)) (hs ++ word_of e)
  unfolding turn turned reacted performed planned ticked tick_hears tick_ends phase_after clocked plan_of logged came accepts word_of
  event_after (Power good layout) k =
      rw append-nil
      (power_idle l spoken good layout _ hs (unfold settle collects in (record { no_words = refl; not_accepted = refl; closed_are = framed_over l spoken g hs _ h Leave refl })))
  event_after (Word w) k =
      let a : AfterBy l spoken g (hs ++ (w ∷ [])) (plan_of l c (Word w)) = word_after l spoken c.bridge g hs w (k w refl) c.bridge.frame.phase _ h in
      stands_concluded l spoken _ _ _ _ _ _ a.ends a.stands
  event_after Release k =
      let a : AfterBy l spoken g hs (plan_of l c Release) = release_after l spoken c.bridge g hs c.bridge.frame.phase h in
      rw append-nil (stands_concluded l spoken _ _ _ _ _ _ a.ends a.stands)
  event_after (Tick sin) k =
      rw append-nil
      (pick_keeps (λ (q : Phase). Stands l spoken q (logged g (plan_of l c (Tick sin))) hs) _ _ _
      (λ t. blocks l spoken _ hs c.bridge.frame.phase (same l spoken g hs c.bridge.frame.phase h)) (λ t. same l spoken g hs c.bridge.frame.phase h))
  event_after (ClockReading reading) k = rw append-nil (same l spoken g hs c.bridge.frame.phase h)

-- a list by its part from a place on
at_head : (n : ℕ) (xs : List Layout) (y : Layout) (ys : List Layout) → drop n xs ≡ y ∷ ys → get_or xs n Ours ≡ y
at_head zero xs y ys e = rw e refl
at_head (suc n) [] y ys e = cc
at_head (suc n) (x ∷ xs) y ys e = at_head n xs y ys e

behind_head : (n : ℕ) (xs : List Layout) (y : Layout) (ys : List Layout) → drop n xs ≡ y ∷ ys → drop (suc n) xs ≡ ys
behind_head zero xs y ys e = rw e refl
behind_head (suc n) [] y ys e = cc
behind_head (suc n) (x ∷ xs) y ys e = behind_head n xs y ys e

module _ (l : Layouts) (fits : LayoutFit l) (spoken : List Layout) where
  -- the layouts of the words that are still to come
  coming : (c : Config) (hs : List ℕ) (e : Event) (ls : List Layout) → drop (length hs) spoken ≡ layout_at c e ++ ls
      → drop (length (hs ++ word_of e)) spoken ≡ ls
  unfolding layout_at word_of
  coming c hs (Power good layout) ls k = rw append-nil k
  coming c hs (Word w) ls k =
      let z : length (hs ++ (w ∷ [])) ≡ suc (length hs) = omega (arith, length-append hs (w ∷ [])) in rw z (behind_head (length hs) spoken _ ls k)
  coming c hs Release ls k = rw append-nil k
  coming c hs (Tick sin) ls k = rw append-nil k
  coming c hs (ClockReading reading) ls k = rw append-nil k

  in_force : (c : Config) (hs : List ℕ) (e : Event) (ls : List Layout) → drop (length hs) spoken ≡ layout_at c e ++ ls
      → (w : ℕ) → e ≡ Word w → get_or spoken (length hs) Ours ≡ c.bridge.control.regs.layout
  unfolding layout_at
  in_force c hs e ls k w h = at_head (length hs) spoken _ ls (k ∙ ap (λ (v : Event). layout_at c v ++ ls) h)

  run_framed : (c : Config) (g : Log) (hs : List ℕ) (es : List Event) → Obeys c → drop (length hs) spoken ≡ spoken_in l c es
      → Stands l spoken c.bridge.frame.phase g hs → Framed l spoken (listed (log_by l g c es)) (hs ++ host_words es)
  unfolding log_by host_words spoken_in
  run_framed c g hs [] o k h = rw append-nil (framed_listed l spoken g hs c.bridge.frame.phase h)
  run_framed c g hs (e ∷ es) o k h =
      rw (← (append_assoc hs (word_of e) (host_words es)))
      (run_framed (next l c e) _ (hs ++ word_of e) es (step_obeys l fits c e o) (coming c hs e _ k) next_stands)
    where
      next_stands : Stands l spoken (next l c e).bridge.frame.phase (logged g (plan_of l c e)) (hs ++ word_of e)
      next_stands = unfold next in rw (obeyed_turn l fits c e o) (event_after l spoken c g hs h e (in_force c hs e _ k))

-- Any run from power-up.
pub accepted_framed : (l : Layouts) → LayoutFit l → (good : Bool) (layout : Layout) (tx rx : List ℕ) → RightStores tx rx → (es : List Event)
    → Framed l (spoken_in l (power_on good layout tx rx) es) (accepted_in l (power_on good layout tx rx) es) (host_words es)
unfolding accepted_in power_on
accepted_framed l fits good layout tx rx stores es =
    run_framed l fits _ (power_on good layout tx rx) no_log [] es (power_obeys l fits good layout tx rx stores) refl
    (power_idle l _ good layout no_log [] (record { no_words = refl; not_accepted = refl; closed_are = start }))

-- For the layouts that there are.
pub demand_2_words : (good : Bool) (layout : Layout) (tx rx : List ℕ) → RightStores tx rx → (es : List Event)
    → Framed layouts (spoken_in layouts (power_on good layout tx rx) es) (accepted_in layouts (power_on good layout tx rx) es) (host_words es)
demand_2_words = accepted_framed layouts layouts_fit
