-- A night keeps demand 3's premises where its other events do, and the line shows every call-up that was taken. Assumes nothing.
use mathlib.Core.Path.{◌≡◌, refl, ap, ap₂, sym, ◌∙◌, subst}
use mathlib.Core.Bool.{Bool, true, false}
use mathlib.Core.List.{List, [], ◌∷◌, ◌++◌, append_assoc, append-nil}
use Prim.Native.Nat.{ℕ}
use Rattle.layout.specs.declared.Layout.{Layout}
use Rattle.base.specs.Pick.{pick}
use Rattle.command.specs.Layouts.{layouts}
use Rattle.line.specs.Format.{Words}
use Rattle.state.specs.declared.Phase.{Phase}
use Rattle.state.specs.declared.Phase.TheVariants.{Idle}
use Rattle.events.specs.declared.Event.{Event}
use Rattle.kept.proofs.Fits.{layouts_fit}
use Rattle.plan.specs.declared.Plan.{Plan}
use Rattle.bridge.specs.Runs.{Config, RightStores, out_of, end_of, line_bit, sout_of, power_on}
use Rattle.bridge.proofs.Reached.{Obeys, step_obeys, power_obeys}
use Rattle.order.specs.Accepted.{plan_of, Log, no_log, came, accepts, collects, joined, settle, logged, log_by, listed, accepted_in}
use Rattle.order.specs.Premises.{Premises}
use Rattle.order.proofs.Frames.{Shut, Kept}
use Rattle.order.proofs.Steps.{Between}
use Rattle.order.proofs.Order.{between_step, between_run, between_power, in_order, exactly, exactly_all, all_sent}
use Rattle.callup.specs.CallUp.{vsync, call_up_to, pairs}
use Rattle.callup.specs.Taken.{Takes}
use Rattle.callup.proofs.Taken.{Taken}
use Rattle.callup.proofs.Frame.{log_of}
use Rattle.callup.proofs.CallUp.{end_append, log_append, premises_append, layouts_speak, taken}
use Rattle.board.specs.Board.{taken_of, call_up_of}
use Rattle.board.specs.declared.Board.{Board}
use Rattle.board.proofs.Taking.{taken_takes}
use Rattle.nights.specs.Nights.{Act, event, call, Yard, yard, act_on, takes, given_by, events_in, yard_after, taken_by, taken_in, KeptBy, called_up, logged_by, log_in, Quiet, Shown}

-- Outside of a frame the log has none open.
pub at_idle : (c : Config) (bits : List Bool) (g : Log) → Between c bits g → c.bridge.frame.phase ≡ Idle → g ≡ log_of g.closed []
unfolding Kept
at_idle c bits g i e =
    let s : Shut g i.S i.K = subst (λ (p : Phase). Kept p g i.S i.K) e i.kept in
    ap₂ (λ (ws : List ℕ) (a : Bool). record { closed = g.closed; words = ws; accepted = a }) s.no_words s.not_accepted

-- a call-up taken leaves what its events do, and one refused leaves all
pub left_taken : (y : Yard) (slot reading : ℕ) (ws : List ℕ) → takes y slot ws ≡ true → (act_on y (call slot reading ws)).at ≡ end_of layouts y.at (call_up_to y.at ws)
unfolding act_on call_up_of taken_of pick
left_taken y slot reading ws h = rw h refl

pub left_refused : (y : Yard) (slot reading : ℕ) (ws : List ℕ) → takes y slot ws ≡ false → (act_on y (call slot reading ws)).at ≡ y.at
unfolding act_on call_up_of pick
left_refused y slot reading ws h = rw h refl

-- What holds of the events of a night.
record Ran (y : Yard) (g : Log) (acts : List Act) : Type 0 where
  premises : Premises layouts y.at (events_in y acts)
  log_is : log_by layouts g y.at (events_in y acts) ≡ log_in g y acts

module _ (y : Yard) (g : Log) (slot reading : ℕ) (ws : List ℕ) (acts : List Act) where
  abbrev later : List Event
  later = events_in (act_on y (call slot reading ws)) acts

  refused_premises : takes y slot ws ≡ false → Premises layouts y.at later → Premises layouts y.at (events_in y (call slot reading ws ∷ acts))
  unfolding events_in given_by pick
  refused_premises h p = rw h p

  taken_premises : takes y slot ws ≡ true → Premises layouts y.at (call_up_to y.at ws) → Premises layouts (end_of layouts y.at (call_up_to y.at ws)) later
      → Premises layouts y.at (events_in y (call slot reading ws ∷ acts))
  unfolding events_in given_by pick
  taken_premises h p q = rw h (premises_append layouts y.at (call_up_to y.at ws) later p q)

  refused_log : takes y slot ws ≡ false → log_by layouts g y.at later ≡ log_in g (act_on y (call slot reading ws)) acts
      → log_by layouts g y.at (events_in y (call slot reading ws ∷ acts)) ≡ log_in g y (call slot reading ws ∷ acts)
  unfolding events_in given_by log_in logged_by pick
  refused_log h p = rw h p

  taken_log : takes y slot ws ≡ true → log_by layouts g y.at (call_up_to y.at ws) ≡ called_up g ws
      → log_by layouts (called_up g ws) (end_of layouts y.at (call_up_to y.at ws)) later ≡ log_in (called_up g ws) (act_on y (call slot reading ws)) acts
      → log_by layouts g y.at (events_in y (call slot reading ws ∷ acts)) ≡ log_in g y (call slot reading ws ∷ acts)
  unfolding events_in given_by log_in logged_by pick
  taken_log h e p =
      rw h (log_append layouts g y.at (call_up_to y.at ws) later ∙ ap (λ (x : Log). log_by layouts x (end_of layouts y.at (call_up_to y.at ws)) later) e ∙ p)

  there_premises : (c : Config) → (act_on y (call slot reading ws)).at ≡ c → Premises layouts (act_on y (call slot reading ws)).at later → Premises layouts c later
  there_premises c d p = subst (λ (x : Config). Premises layouts x later) d p

  there_log : (h : Log) (c : Config) → (act_on y (call slot reading ws)).at ≡ c
      → log_by layouts h (act_on y (call slot reading ws)).at later ≡ log_in h (act_on y (call slot reading ws)) acts
      → log_by layouts h c later ≡ log_in h (act_on y (call slot reading ws)) acts
  there_log h c d p = subst (λ (x : Config). log_by layouts h x later ≡ log_in h (act_on y (call slot reading ws)) acts) d p

  -- a call-up, and what is shown of the rest of the night
  ran_call : (bits : List Bool) → Obeys y.at → Between y.at bits g → Words ws
      → ((more : List Bool) (h : Log) → Obeys (act_on y (call slot reading ws)).at → Between (act_on y (call slot reading ws)).at more h
      → Ran (act_on y (call slot reading ws)) h acts)
      → Ran y g (call slot reading ws ∷ acts)
  ran_call bits o i k again = go (takes y slot ws) refl
    where
      go : (t : Bool) → takes y slot ws ≡ t → Ran y g (call slot reading ws ∷ acts)
      go false h =
          let d : (act_on y (call slot reading ws)).at ≡ y.at = left_refused y slot reading ws h in
          let r : Ran (act_on y (call slot reading ws)) g acts = again bits g (rw d o) (rw d i) in
          record { premises = refused_premises h (there_premises _ d r.premises); log_is = refused_log h (there_log g _ d r.log_is) }
      go true h =
          let c : Config = y.at in
          let t : Takes c ws = taken_takes c slot ws k h in
          let u : Taken layouts c (log_of g.closed []) ws = taken layouts layouts_fit layouts_speak c g.closed ws o t in
          let d : (act_on y (call slot reading ws)).at ≡ end_of layouts c (call_up_to c ws) = left_taken y slot reading ws h in
          let e : log_by layouts g c (call_up_to c ws) ≡ called_up g ws = ap (λ (x : Log). log_by layouts x c (call_up_to c ws)) (at_idle c bits g i t.ready.idle_frame) ∙ u.log in
          let b : Between (end_of layouts c (call_up_to c ws)) (bits ++ sout_of layouts c (call_up_to c ws)) (log_by layouts g c (call_up_to c ws))
          = between_run layouts layouts_fit c bits g (call_up_to c ws) i o u.premises in
          let r : Ran (act_on y (call slot reading ws)) (called_up g ws) acts = again (bits ++ sout_of layouts c (call_up_to c ws)) (called_up g ws) (rw d u.obeys) (rw d (rw e at b)) in
          record { premises = taken_premises h u.premises (there_premises _ d r.premises); log_is = taken_log h e (there_log (called_up g ws) _ d r.log_is) }

ran : (acts : List Act) (y : Yard) (bits : List Bool) (g : Log) → Obeys y.at → Between y.at bits g → KeptBy y acts → Ran y g acts
unfolding events_in given_by log_in logged_by log_by act_on
ran [] y bits g o i k = record { premises = tt; log_is = refl }
ran (event e ∷ acts) y bits g o i k =
    let r : Ran (act_on y (event e)) (logged g (plan_of layouts y.at e)) acts
    = ran acts (act_on y (event e)) (bits ++ line_bit e (out_of layouts y.at e).answer.sout) (logged g (plan_of layouts y.at e))
    (step_obeys layouts layouts_fit y.at e o) (between_step layouts layouts_fit y.at bits g e i o k.0) k.1 in
    record { premises = (k.0, r.premises); log_is = r.log_is }
ran (call slot reading ws ∷ acts) y bits g o i k =
    ran_call y g slot reading ws acts bits o i k.0 (λ more h p q. ran acts (act_on y (call slot reading ws)) more h p q k.1)

-- the events of a night lead where its acts do
given_leads : (y : Yard) (a : Act) → end_of layouts y.at (given_by y a) ≡ (act_on y a).at
unfolding given_by end_of pick
given_leads y (event e) = unfold act_on in refl
given_leads y (call slot reading ws) = go (takes y slot ws) refl
  where
    go : (t : Bool) → takes y slot ws ≡ t → end_of layouts y.at (pick (takes y slot ws) (call_up_to y.at ws) []) ≡ (act_on y (call slot reading ws)).at
    go true h = rw h (sym (left_taken y slot reading ws h))
    go false h = rw h (sym (left_refused y slot reading ws h))

night_leads : (acts : List Act) (y : Yard) → end_of layouts y.at (events_in y acts) ≡ (yard_after y acts).at
unfolding events_in yard_after end_of
night_leads [] y = refl
night_leads (a ∷ acts) y =
    end_append layouts y.at (given_by y a) (events_in (act_on y a) acts)
    ∙ ap (λ (c : Config). end_of layouts c (events_in (act_on y a) acts)) (given_leads y a) ∙ night_leads acts (act_on y a)

-- an event that queues no command lists none
quiet_settle : (t : Bool) (D : List (List ℕ)) (ws : List ℕ) → ((settle t D ws false).closed ≡ D) × ((settle t D ws false).accepted ≡ false)
unfolding settle joined
quiet_settle true D ws = (refl, refl)
quiet_settle false D ws = (refl, refl)

quiet_event : (g : Log) (p : Plan) → g.accepted ≡ false → accepts p.deed ≡ false → ((logged g p).closed ≡ g.closed) × ((logged g p).accepted ≡ false)
unfolding logged
quiet_event g p z h = rw (z, h) (quiet_settle (collects p.phase) g.closed (came g.words p.store))

quiet_call : (t : Bool) (y : Yard) (g : Log) (slot reading : ℕ) (ws : List ℕ) (acts : List Act)
    → listed (log_in (called_up g ws) (act_on y (call slot reading ws)) acts) ≡ (g.closed ++ (ws ∷ (vsync ∷ []) ∷ [])) ++ pairs (taken_in (act_on y (call slot reading ws)) acts)
    → listed (log_in g (act_on y (call slot reading ws)) acts) ≡ g.closed ++ pairs (taken_in (act_on y (call slot reading ws)) acts)
    → listed (log_in (pick t (called_up g ws) g) (act_on y (call slot reading ws)) acts)
    ≡ g.closed ++ pairs (pick t (ws ∷ []) [] ++ taken_in (act_on y (call slot reading ws)) acts)
unfolding pick pairs
quiet_call true y g slot reading ws acts a b = a ∙ append_assoc g.closed (ws ∷ (vsync ∷ []) ∷ []) _
quiet_call false y g slot reading ws acts a b = b

-- where the other events queue nothing the list is that of the call-ups
quiet_list : (acts : List Act) (y : Yard) (g : Log) → g.accepted ≡ false → Quiet y acts → listed (log_in g y acts) ≡ g.closed ++ pairs (taken_in y acts)
unfolding log_in taken_in taken_by logged_by listed joined pairs
quiet_list [] y g z q = rw (z, append-nil) refl
quiet_list (event e ∷ acts) y g z q =
    let n = quiet_event g (plan_of layouts y.at e) z q.0 in
    let r : listed (log_in (logged g (plan_of layouts y.at e)) (act_on y (event e)) acts)
    ≡ (logged g (plan_of layouts y.at e)).closed ++ pairs (taken_in (act_on y (event e)) acts)
    = quiet_list acts (act_on y (event e)) (logged g (plan_of layouts y.at e)) n.1 q.1 in
    r ∙ ap (λ (D : List (List ℕ)). D ++ pairs (taken_in (act_on y (event e)) acts)) n.0
quiet_list (call slot reading ws ∷ acts) y g z q =
    quiet_call (takes y slot ws) y g slot reading ws acts
    (quiet_list acts (act_on y (call slot reading ws)) (called_up g ws) refl q) (quiet_list acts (act_on y (call slot reading ws)) g z q)

-- Every night from power-up.
module _ (good : Bool) (layout : Layout) (tx rx : List ℕ) (stores : RightStores tx rx) (board : Board) (acts : List Act)
    (k : KeptBy (yard board (power_on good layout tx rx)) acts) where
  abbrev start : Yard
  start = yard board (power_on good layout tx rx)

  at_end_lem : Ran start no_log acts
  at_end_lem = ran acts start [] no_log (power_obeys layouts layouts_fit good layout tx rx stores) (between_power good layout tx rx stores) k

  pub night_shown : Shown good layout tx rx board acts
  unfolding accepted_in
  night_shown =
      let p : Premises layouts (power_on good layout tx rx) (events_in start acts) = at_end_lem.premises in
      record {
        led_to = night_leads acts start;
        faithful = record {
          in_order = in_order layouts layouts_fit good layout tx rx stores (events_in start acts) p;
          exactly = exactly layouts layouts_fit good layout tx rx stores (events_in start acts) p;
          all_sent = all_sent layouts layouts_fit good layout tx rx stores (events_in start acts) p;
          exactly_all = exactly_all layouts layouts_fit good layout tx rx stores (events_in start acts) p;
        };
        list_is = ap listed at_end_lem.log_is;
        pairs_are = λ q. ap listed at_end_lem.log_is ∙ quiet_list acts start no_log refl q;
      }
