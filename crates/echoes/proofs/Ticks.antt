-- A tick with the chain behind it keeps reader and sender in tune, and is fair. Assumes nothing.
use mathlib.Core.Path.{◌≡◌, refl, ap, ◌∙◌}
use mathlib.Core.Bool.{Bool, true, false}
use mathlib.Core.List.{List, ◌∷◌}
use Prim.Native.Nat.{ℕ, ◌+◌, ◌-◌, ◌≤◌}
use native.Mathlib.Omega.{arith}
use Rattle.base.specs.Pick.{pick, pick_keeps}
use Rattle.base.specs.Truth.{never}
use Rattle.command.specs.Layouts.{Layouts}
use Rattle.line.specs.Reader.{hear}
use Rattle.line.specs.declared.Ear.{Ear}
use Rattle.line.specs.declared.Found.{Found}
use Rattle.line.specs.declared.Found.TheVariants.{Nothing, Start, Word, End, CheckError, Over}
use Rattle.registers.specs.Raising.{raised, went_bad}
use Rattle.registers.specs.Registers.{blocking}
use Rattle.registers.specs.declared.Flags.{Flags}
use Rattle.state.specs.Frame.{to_come, mine_of}
use Rattle.state.specs.Rings.{oldest, written}
use Rattle.state.specs.declared.Queue.{Queue}
use Rattle.state.specs.declared.Receiving.{Receiving}
use Rattle.state.specs.declared.Sender.{Sender}
use Rattle.state.specs.declared.Sending.{Sending}
use Rattle.next.specs.Next.{may_start, choose, bit_sent, is_starve}
use Rattle.next.specs.declared.Next.{Next}
use Rattle.sender.specs.Sender.{advanced, sent_by, tick_sender}
use Rattle.sender.specs.declared.Sent.{Sent}
use Rattle.reader.specs.Reader.{word_taken, ended, taken_by, tick_reader}
use Rattle.reader.specs.declared.Taken.{Taken}
use Rattle.plan.specs.Plan.{settled}
use Rattle.forwards.specs.Forward.{clears}
use Rattle.ticks.specs.Ticks.{starved_flags, flags_sent, phase_after, control_ticked, tick_ends, tick_hears, ticked}
use Rattle.events.specs.Events.{reacted}
use Rattle.events.specs.Turn.{turned, turn}
use Rattle.events.specs.declared.Event.TheVariants.{Tick}
use Rattle.kept.specs.Rules.{SendRules}
use Rattle.kept.proofs.Fits.{LayoutFit}
use Rattle.kept.proofs.Sender.{Chosen, chosen, rules_advanced, tick_sender_keeps}
use Rattle.kept.proofs.Stands.{tick_stands}
use Rattle.bridge.specs.Runs.{Config, faults, out_of, next, left_by}
use Rattle.bridge.proofs.Reached.{Obeys, obeyed_turn, step_obeys}
use Rattle.order.specs.Accepted.{plan_of}
use Rattle.order.specs.Premises.{Fair, is_power, losing}
use Rattle.order.proofs.Faults.{tick_calm, fault_note}
use Rattle.callup.specs.Taken.{Open, Sixteens}
use Rattle.echoes.proofs.Hearing.{Step, Hears, Finds, nothing, starts, words, ends, Heard, heard_step}
use Rattle.echoes.proofs.Paths.{Path, Back, back}
use Rattle.echoes.proofs.Counts.{unread}
use Rattle.echoes.proofs.Halves.{begins, sender_step, advanced_unread, finished_unread, Reads, reader_tick}

-- What holds between two ticks: `chain` are the bits under way, oldest first, and behind the first `lag` of them the sender was idle.
pub record Tuned (c : Config) (chain : List Bool) (lag : ℕ) : Type 0 where
  pub obeys : Obeys c
  pub cells : Sixteens c.tx
  pub then : Sender
  pub inside : ℕ
  pub others : ℕ
  pub hears : Hears then c.bridge.receiving.reader.ear inside
  pub path : Path then chain c.bridge.sending.sender others lag
  pub count : unread c.bridge.sending.queue ≡ inside + others
  pub belongs : inside ≡ 1 → c.bridge.receiving.reader.belongs ≡ true

finds_le : (found : Found) (j k n : ℕ) → Finds found j k n → n ≤ k + j
finds_le found j k n (nothing _) = omega arith
finds_le found j k n starts = omega arith
finds_le found j k n (words w) = omega arith
finds_le found j k n ends = omega arith

-- POR stays as it is.
por_word : (r : Receiving) (q : Queue) (f : Flags) (e : Ear) (w : ℕ) → (word_taken r q f e w).flags.por ≡ f.por
unfolding word_taken raised
por_word r q f e w =
    pick_keeps (λ (t : Taken). t.flags.por ≡ f.por) _ _ _
    (λ p. pick_keeps (λ (t : Taken). t.flags.por ≡ f.por) _ _ _ (λ m. refl) (λ m. refl)) (λ p. refl)

por_taken : (found : Found) (r : Receiving) (q : Queue) (f : Flags) (e : Ear) → (taken_by found r q f e).flags.por ≡ f.por
unfolding taken_by ended raised went_bad
por_taken Nothing r q f e = refl
por_taken Start r q f e = refl
por_taken (Word w) r q f e = por_word r q f e w
por_taken (CheckError n) r q f e = refl
por_taken End r q f e = pick_keeps (λ (g : Flags). g.por ≡ f.por) _ _ _ (λ t. refl) (λ t. refl)
por_taken Over r q f e = pick_keeps (λ (g : Flags). g.por ≡ f.por) _ _ _ (λ t. refl) (λ t. refl)

por_sent : (f : Flags) (s : Sent) → (flags_sent f s).por ≡ f.por
unfolding flags_sent starved_flags raised
por_sent f s =
    pick_keeps (λ (g : Flags). g.por ≡ f.por) _ _ _
    (λ d. pick_keeps (λ (g : Flags). g.por ≡ f.por) _ _ _ (λ t. refl) (λ t. refl))
    (λ d. pick_keeps (λ (g : Flags). g.por ≡ f.por) _ _ _ (λ t. refl) (λ t. refl))

-- What a tick on an open bridge leaves as it was.
pub record Ticking (l : Layouts) (c : Config) (sin : Bool) : Type 0 where
  pub still_open : Open (next l c (Tick sin))
  pub cells : (next l c (Tick sin)).tx ≡ c.tx
  pub fair : Fair l c (Tick sin)

module _ (l : Layouts) (fits : LayoutFit l) (c : Config) (o : Obeys c) (free : Open c) (sin : Bool) where
  abbrev word_due : ℕ
  word_due = oldest c.tx c.bridge.sending.tx

  abbrev kind : Next
  kind = choose c.bridge.sending (may_start c.bridge.control)

  abbrev half : Sent
  half = tick_sender c.bridge.sending (may_start c.bridge.control) word_due

  abbrev heard_by : Taken
  heard_by = tick_reader c.bridge.receiving half.sending.queue (flags_sent c.bridge.control.flags half) sin

  out_is : out_of l c (Tick sin) ≡ turned c.bridge c.tx c.rx (tick_ends c.bridge half heard_by sin)
  unfolding turn reacted ticked tick_hears
  out_is = obeyed_turn l fits c (Tick sin) o

  next_is : next l c (Tick sin) ≡ left_by (turned c.bridge c.tx c.rx (tick_ends c.bridge half heard_by sin))
  unfolding next
  next_is = ap left_by out_is

  pub sender_is : (next l c (Tick sin)).bridge.sending.sender ≡ (advanced kind c.bridge.sending word_due).sender
  unfolding turned tick_ends tick_sender sent_by
  sender_is = rw next_is refl

  pub queue_is : (next l c (Tick sin)).bridge.sending.queue ≡ heard_by.queue
  unfolding turned tick_ends
  queue_is = rw next_is refl

  pub receiving_is : (next l c (Tick sin)).bridge.receiving ≡ heard_by.receiving
  unfolding turned tick_ends
  receiving_is = rw next_is refl

  pub sout_is : (out_of l c (Tick sin)).answer.sout ≡ bit_sent kind c.bridge.sending.sender word_due
  unfolding turned tick_ends tick_sender sent_by
  sout_is = rw out_is refl

  module _ (fed : half.starved ≡ false) where
    calm_after : blocking (next l c (Tick sin)).bridge.control.flags ≡ false
    unfolding turned ticked tick_hears
    calm_after = rw next_is (tick_calm c.bridge sin word_due free.unblocked fed)

    note_after_lem : faults (out_of l c (Tick sin)).answer.note ≡ false
    unfolding turned ticked tick_hears
    note_after_lem = rw out_is (fault_note c.bridge sin word_due (tick_calm c.bridge sin word_due free.unblocked fed))

    open_after : Open (next l c (Tick sin))
    open_after =
        record {
          normal = rw next_is (unfold turned tick_ends control_ticked settled in free.normal);
          clear =
              rw next_is
              (unfold turned tick_ends control_ticked settled tick_reader in por_taken _ c.bridge.receiving _ _ _ ∙ por_sent c.bridge.control.flags half ∙ free.clear);
          unblocked = calm_after;
          idle_frame = rw next_is (unfold turned tick_ends phase_after pick in rw fed free.idle_frame);
        }

    pub ticking : Ticking l c sin
    ticking =
        record {
          still_open = open_after;
          cells = rw next_is (unfold turned tick_ends written in refl);
          fair = record {
            typed = tt;
            no_fault = note_after_lem;
            no_loss = λ z. never (losing l c (Tick sin)) z (unfold plan_of clears is_power in refl);
          };
        }

-- a tick is starved where its kind is that
pub starved_is : (s : Sending) (may : Bool) (w : ℕ) → (tick_sender s may w).starved ≡ is_starve (choose s may)
unfolding tick_sender sent_by
starved_is s may w = refl

-- in tune again, with so much less lag
pub record TunedOn (d : Config) (chain : List Bool) (before : ℕ) : Type 0 where
  pub lag : ℕ
  pub tuned : Tuned d chain lag
  pub less : lag ≤ before - 1

pub may_open : (c : Config) → Open c → may_start c.bridge.control ≡ true
may_open c o = rw (o.unblocked, o.clear, o.normal) refl

pub none_to_come : (c : Config) → Open c → to_come c.bridge.frame.phase ≡ 0
unfolding to_come
none_to_come c o = rw o.idle_frame refl

pub none_mine : (c : Config) → Open c → mine_of c.bridge.frame.phase ≡ 0
unfolding mine_of
none_mine c o = rw o.idle_frame refl

module _ (l : Layouts) (fits : LayoutFit l) (c : Config) (chain : List Bool) (lag : ℕ) (t : Tuned c chain lag) (free : Open c) where
  -- the rules of the sending side, with no frame open
  pub send_rules : SendRules c.bridge.sending 0 0
  send_rules = rw (none_to_come c free, none_mine c free) at t.obeys.rules.sending

  abbrev this : Next
  this = choose c.bridge.sending (may_start c.bridge.control)

  abbrev due : ℕ
  due = oldest c.tx c.bridge.sending.tx

  abbrev sent : Sending
  sent = (tick_sender c.bridge.sending (may_start c.bridge.control) due).sending

  abbrev after : Sender
  after = (advanced this c.bridge.sending due).sender

  abbrev bit : Bool
  bit = bit_sent this c.bridge.sending.sender due

  pub step_made : is_starve this ≡ false → Step c.bridge.sending.sender bit after (begins this)
  step_made f = sender_step c.bridge.sending due (t.cells _) this (chosen c.bridge.sending (may_start c.bridge.control)) f

  sent_unread : unread sent.queue ≡ unread c.bridge.sending.queue + begins this
  unfolding tick_sender sent_by
  sent_unread =
      let k : Chosen c.bridge.sending this = chosen c.bridge.sending (may_start c.bridge.control) in
      let a = rules_advanced this c.bridge.sending due 0 0 send_rules k in
      finished_unread (advanced this c.bridge.sending due) a.queue a.eight
      ∙ advanced_unread c.bridge.sending due send_rules.queue send_rules.eight t.obeys.rules.stands.standing this k

  -- one tick, by the bits under way with this one
  pub tuned_on : (x : Bool) (rest : List Bool) (longest : ℕ) → is_starve this ≡ false
      → Path t.then (x ∷ rest) after (t.others + begins this) longest → TunedOn (next l c (Tick x)) rest longest
  tuned_on x rest longest f p =
      let o : Obeys c = t.obeys in
      let g = tick_sender_keeps c.bridge.sending (may_start c.bridge.control) due 0 0 send_rules in
      let st = tick_stands c.bridge.sending (may_start c.bridge.control) due 0 0 send_rules o.rules.stands in
      let k : Back t.then x rest after (t.others + begins this) longest = back t.then x rest after (t.others + begins this) longest p in
      let h : Heard k.then c.bridge.receiving.reader.ear x k.begins t.inside
      = heard_step c.bridge.receiving.reader.ear t.then x k.then k.begins t.inside t.hears k.step in
      let u : unread sent.queue ≡ t.inside + (k.begins + k.others) = omega (arith, sent_unread, t.count, k.sum) in
      let r : Reads sent.queue (hear c.bridge.receiving.reader.ear x).ear ((t.inside + k.begins) - h.after) h.after
      (tick_reader c.bridge.receiving sent.queue (flags_sent c.bridge.control.flags (tick_sender c.bridge.sending (may_start c.bridge.control) due)) x)
      = reader_tick c.bridge.receiving sent.queue _ g.queue g.eight st.0.standing x k.begins t.inside h.after k.others h.finds
      t.belongs u in
      record {
        lag = k.lag;
        tuned = record {
          obeys = step_obeys l fits c (Tick x) o;
          cells = rw (ticking l fits c o free x (starved_is _ _ _ ∙ f)).cells t.cells;
          then = k.then;
          inside = h.after;
          others = k.others;
          hears = rw (receiving_is l fits c o free x, r.ear) h.hears;
          path = rw (sender_is l fits c o free x) k.path;
          count = rw (queue_is l fits c o free x) (omega (arith, r.left, u, finds_le _ k.begins t.inside h.after h.finds));
          belongs = λ z. rw (receiving_is l fits c o free x) (r.belongs z);
        };
        less = k.less;
      }
