-- Laws of a run of quiet ticks, as the functions' proofs ask them. Assumes nothing.
use Rattle.std.specs.Prelude.{Result, Ok, Err}
use mathlib.Core.Path.{◌≡◌, refl, sym, ◌∙◌, ap, subst}
use mathlib.Core.Bool.{Bool, true, false}
use mathlib.Core.List.{List}
use Prim.Native.Nat.{ℕ, suc, ◌+◌, ◌-◌, ◌*◌, ◌<◌, ◌≤◌}
use native.Mathlib.Omega.{arith}
use lib.Dec.{ltb, eqb}
use lib.ListN.{length, get_or}
use borrow.Author.Tests.{lt-ltb, le-ltb}
use Rattle.base.specs.Pick.{pick, pick_true, pick_false}
use Rattle.command.specs.Layouts.{layouts}
use Rattle.line.specs.Reader.{hear}
use Rattle.plan.specs.Plan.{no_answer}
use Rattle.state.specs.Facts.{HostFit}
use Rattle.state.specs.Notes.{note_number}
use Rattle.state.specs.declared.Bridge.{Bridge}
use Rattle.events.specs.Turn.{Out, out, turn}
use Rattle.events.specs.declared.Answer.{Answer}
use Rattle.events.specs.declared.Event.TheVariants.{Tick}
use Rattle.quick.specs.Passing.{is_nothing}
use Rattle.bridge.specs.Fit.{Fit, Kept}
use Rattle.bridge.proofs.Keeping.{turn_keeps}
use Rattle.lull.specs.Lull.{hot_of, rests_in, reach, quiet_by, next_hot, quiet_bit, laid, laid_by, quiet_answer}
use Rattle.lull.specs.declared.Hot.{Hot}
use Rattle.lull.proofs.Ticks.{quiet_turn, gone_within, was_quiet}
use Rattle.listing.specs.Records.{event_at}
use Rattle.listing.specs.Results.{put}
use Rattle.listing.specs.Run.{Moment, put_answer, list_of, Ahead, Gone}
use Rattle.listing.proofs.Records.{each_event, tick_at}
use Rattle.listing.proofs.Laws.{put_length}
use Rattle.night_parts.specs.Hush.{Hush}
use Rattle.night_parts.proofs.Single.{room_now, tick_again}

none_laid : (from : ℕ) (b : Bridge) (still : Bool) (h : Hot) → b ≡ laid_by (ltb from from) b still h
none_laid from b still h = pick_false (ltb from from) b _ _ (le-ltb from from (omega arith)) refl

pub hush_begins : (records : List ℕ) (many : ℕ) (b : Bridge) (from : ℕ) (still : Bool) (h : Hot) (s : List ℕ) → HostFit b → Ahead records s from many
    → h ≡ hot_of b → Hush records many b from s from still h s
hush_begins records many b from still h s f l e = record {
  whole = λ tx rx. ap (λ (x : Bridge). list_of records (many - from) from x tx rx s) (sym (none_laid from b still h));
  fit = λ tx rx i. subst (λ (x : Bridge). Fit x tx rx) (none_laid from b still h) i;
  least = omega arith;
  most = omega (arith, l.one);
  size = refl;
  first = λ z. e;
  gone = rw e f.sending.gone;
}

module _ (records : List ℕ) (many : ℕ) (b : Bridge) (from : ℕ) (s₀ : List ℕ) (k : ℕ) (still : Bool) (h : Hot) (s : List ℕ)
    (v : Hush records many b from s₀ k still h s) (l : Ahead records s₀ from many) (i : k < many) (r : still ≡ rests_in b)
    (kind : ℕ) (ke : kind ≡ get_or records (k * 3) 0) (three : kind ≡ 3) (sin : Bool) (n : sin ≡ eqb (get_or records (k * 3 + 2) 0) 1) where
  abbrev before : Bridge
  before = laid_by (ltb from k) b still h

  is_tick : event_at records k ≡ Tick sin
  is_tick = sym (tick_at records k (each_event records many l.list.events k i) (sym ke ∙ three)) ∙ ap Tick (sym n)

  module _ (q : quiet_by h (reach b.sending.sender) still sin ≡ true) where
    turned : (tx rx : List ℕ) → turn layouts before tx rx (event_at records k) ≡ out (quiet_answer b still h sin) tx rx
    turned tx rx = ap (turn layouts before tx rx) is_tick ∙ quiet_turn (ltb from k) b still h sin tx rx v.first (λ e. sym r ∙ e) q

    abbrev on : List ℕ → List ℕ → Out → Moment
    on tx rx x = list_of records (many - (k + 1)) (k + 1) x.answer.state x.tx x.rx (put_answer s k x.answer)

    one : (tx rx : List ℕ) → on tx rx (turn layouts before tx rx (event_at records k)) ≡ list_of records (many - k) k before tx rx s
    unfolding list_of
    one tx rx = let z : many - k ≡ suc (many - (k + 1)) = omega arith in sym (ap (λ (m : ℕ). list_of records m k before tx rx s) z)

    some_laid : laid b still (next_hot h still sin) ≡ laid_by (ltb from (k + 1)) b still (next_hot h still sin)
    some_laid = pick_true (ltb from (k + 1)) _ _ _ (lt-ltb from (k + 1) (omega (arith, v.least))) refl

    more : Hush records many b from s₀ (k + 1) still (next_hot h still sin) (put s k 0 no_answer (quiet_bit h b.sending.sender.piece still))
    more = record {
      whole = λ tx rx. subst
          (λ (x : Bridge). list_of records (many - (k + 1)) (k + 1) x tx rx (put s k 0 no_answer (quiet_bit h b.sending.sender.piece still))
          ≡ list_of records (many - from) from b tx rx s₀) some_laid
          (sym (ap (on tx rx) (turned tx rx)) ∙ one tx rx ∙ v.whole tx rx);
      fit = λ tx rx f. subst (λ (x : Bridge). Fit x tx rx) some_laid
          (subst Kept (turned tx rx) (turn_keeps before tx rx (event_at records k) (v.fit tx rx f)));
      least = omega (arith, v.least);
      most = omega arith;
      size = rw put_length v.size;
      first = λ z. let y : ltb from (k + 1) ≡ true = lt-ltb from (k + 1) (omega (arith, v.least)) in cc;
      gone = gone_within still (is_nothing (hear h.ear sin).found) h.gone b.sending.sender q;
    }

  pub hush_more : (to : ℕ) → to ≡ reach b.sending.sender → (q : Result Hot Hot) (g : Hot) (x : Bool) (u : List ℕ)
      → q ≡ pick (quiet_by h to still sin) (Ok (next_hot h still sin)) (Err (next_hot h still sin)) → q ≡ Ok g
      → x ≡ quiet_bit h b.sending.sender.piece still → u ≡ put s k 0 no_answer x → Hush records many b from s₀ (k + 1) still g u
  hush_more to t q g x u e p o w =
      let y = was_quiet (quiet_by h to still sin) (next_hot h still sin) g (sym e ∙ p) in
      rw (w, o, y.1) (more (subst (λ (m : ℕ). quiet_by h m still sin ≡ true) t y.0))

-- every event of the list was such a tick
pub hush_end : (records : List ℕ) (many : ℕ) (b : Bridge) (from : ℕ) (s₀ : List ℕ) (k : ℕ) (still : Bool) (h : Hot) (s : List ℕ)
    → Hush records many b from s₀ k still h s → many ≤ k → Hush records many b from s₀ many still h s
hush_end records many b from s₀ k still h s v l =
    let z : k ≡ many = omega (arith, v.most) in subst (λ (n : ℕ). Hush records many b from s₀ n still h s) z v

-- the next event's bytes
module _ (records : List ℕ) (many : ℕ) (b : Bridge) (from : ℕ) (s₀ : List ℕ) (k : ℕ) (still : Bool) (h : Hot) (s : List ℕ)
    (v : Hush records many b from s₀ k still h s) (l : Ahead records s₀ from many) (i : k < many) where
  pub hush_room : k * 4 + 4 ≤ length s
  hush_room = rw v.size (omega (arith, l.list.room))

  pub hush_record : k * 3 + 3 ≤ length records
  hush_record = omega (arith, l.list.bytes)

-- the list's run goes on from what such a run left
module _ (records : List ℕ) (many from : ℕ) (b₀ : Bridge) (tx₀ rx₀ s₀ : List ℕ) (k : ℕ) (b : Bridge) (tx rx s : List ℕ)
    (v : Gone records many from b₀ tx₀ rx₀ s₀ k b tx rx s) (to : ℕ) (still : Bool) (h : Hot) (u : List ℕ) (w : Hush records many b k s to still h u) where
  gone_on_lem : (x : Bridge) → x ≡ laid_by (ltb k to) b still h → Gone records many from b₀ tx₀ rx₀ s₀ to x tx rx u
  gone_on_lem x e = record {
    whole = ap (λ (y : Bridge). list_of records (many - to) to y tx rx u) e ∙ w.whole tx rx ∙ v.whole;
    fit = subst (λ (y : Bridge). Fit y tx rx) (sym e) (w.fit tx rx v.fit);
    least = omega (arith, v.least, w.least);
    within = w.most;
    list = record { events = v.list.events; bytes = v.list.bytes; room = rw w.size v.list.room };
    size = w.size ∙ v.size;
  }

  pub hushed : (x : Bridge) → k < to → x ≡ laid b still h → Gone records many from b₀ tx₀ rx₀ s₀ to x tx rx u
  hushed x l e = gone_on_lem x (e ∙ pick_true (ltb k to) _ _ _ (lt-ltb k to l) refl)

  unhushed : to ≤ k → Gone records many from b₀ tx₀ rx₀ s₀ k b tx rx u
  unhushed l =
      let z : to ≡ k = omega (arith, w.least) in
      subst (λ (m : ℕ). Gone records many from b₀ tx₀ rx₀ s₀ m b tx rx u) z (gone_on_lem b (pick_false (ltb k to) _ _ _ (le-ltb k to l) refl))

  -- no tick was quiet: the next is done by itself
  module _ (l : to ≤ k) (i : k < many) where
    pub unhushed_room : k * 4 + 4 ≤ length u
    unhushed_room = room_now records many from b₀ tx₀ rx₀ s₀ k b tx rx u (unhushed l) i

    pub unhushed_tick : (kind : ℕ) → kind ≡ get_or records (k * 3) 0 → kind ≡ 3 → (sin : Bool) → sin ≡ eqb (get_or records (k * 3 + 2) 0) 1 → (a : Answer) (t r z : List ℕ)
        → out a t r ≡ turn layouts b tx rx (Tick sin) → z ≡ put u k (note_number a.note) a.sdo a.sout
        → Gone records many from b₀ tx₀ rx₀ s₀ (k + 1) a.state t r z
    unhushed_tick kind ke e = tick_again records many from b₀ tx₀ rx₀ s₀ k b tx rx u (unhushed l) i (sym ke ∙ e)
