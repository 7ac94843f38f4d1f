-- One event of each kind in a list's run, as the functions' proofs ask them. Assumes nothing.
use Rattle.std.specs.Prelude.{Option, None, Some, IsSome}
use mathlib.Core.Path.{◌≡◌, refl, sym, ◌∙◌, ap, subst}
use mathlib.Core.Bool.{Bool, true, false}
use mathlib.Core.List.{List}
use Prim.Native.Nat.{ℕ, ◌+◌, ◌-◌, ◌*◌, ◌<◌, ◌≤◌}
use native.Mathlib.Omega.{arith}
use lib.Dec.{eqb}
use lib.ListN.{length, get_or}
use Rattle.command.specs.Layouts.{layouts}
use Rattle.registers.specs.declared.Control.{Control}
use Rattle.state.specs.Notes.{note_number}
use Rattle.state.specs.Rings.{written}
use Rattle.state.specs.declared.Bridge.{Bridge}
use Rattle.state.specs.declared.Note.TheVariants.{Done}
use Rattle.plan.specs.Plan.{no_answer}
use Rattle.clock.specs.Clock.{watch_fires, dog_fires, control_at, clock_at, clocked_by, clocked}
use Rattle.events.specs.Events.{reacted}
use Rattle.events.specs.Turn.{out, turned, turn}
use Rattle.events.specs.declared.Answer.{Answer}
use Rattle.events.specs.declared.Event.{Event}
use Rattle.events.specs.declared.Event.TheVariants.{Release, Tick, Clock as ClockReading}
use Rattle.script.specs.Script.{value_of}
use Rattle.listing.specs.Results.{put}
use Rattle.listing.specs.Run.{Ahead, Lent, Gone}
use Rattle.listing.specs.Records.{is_good, event_of, record_at, is_event, event_at}
use Rattle.listing.proofs.Records.{each_event, word_only, release_at, tick_at, clock_at_lem}
use Rattle.listing.proofs.Laws.{put_length, again, begins, event_now, joined}
use Rattle.night_parts.specs.Parts.{Onward, Apart, Further}

pub to_kind : (x y n : ℕ) → x ≡ y → x ≡ n → y ≡ n
to_kind x y n e h = sym e ∙ h

-- a record that is an event: what was read of it
pub to_power : (r : Option Event) (s : List ℕ) (k : ℕ) (e : Event) → r ≡ record_at s k → r ≡ Some e → e ≡ event_at s k
unfolding event_of
to_power r s k e h i = rw (sym h ∙ i) refl

is_read : (r g : Option Event) → r ≡ g → is_good g ≡ true → IsSome r
unfolding is_good
is_read (Some e) g h i = refl
is_read None g h i = let z : ◌≡◌ {A = Bool} false true = ap is_good h ∙ i in cc

pub further : (from k : ℕ) → (from ≡ k → ⊥) → from ≤ k → from < k
further from k f l = omega arith

-- a record of another kind is not the first
past : (records : List ℕ) (kind from k : ℕ) → get_or records (from * 3) 0 ≡ kind → (get_or records (k * 3) 0 ≡ kind → ⊥) → from ≤ k → from < k
past records kind from k h n l = further from k (λ e. n (subst (λ (j : ℕ). get_or records (j * 3) 0 ≡ kind) e h)) l

module _ (records : List ℕ) (many from : ℕ) (b₀ : Bridge) (tx₀ rx₀ s₀ : List ℕ) (k : ℕ) (b : Bridge) (tx rx s : List ℕ)
    (v : Gone records many from b₀ tx₀ rx₀ s₀ k b tx rx s) where
  -- the run is over, or the next record is of another kind
  pub to_last : from < many → many ≤ k → Onward records many from b₀ tx₀ rx₀ s₀ k b tx rx s
  to_last h l = record { gone = v; some = omega arith }

  pub to_other : (kind x : ℕ) → get_or records (from * 3) 0 ≡ kind → x ≡ get_or records (k * 3) 0 → (x ≡ kind → ⊥) → Onward records many from b₀ tx₀ rx₀ s₀ k b tx rx s
  to_other kind x h e n = record { gone = v; some = past records kind from k h (λ i. n (e ∙ i)) v.least }

  -- a part in the run
  module _ (to : ℕ) (x : Bridge) (t r u : List ℕ) (w : Onward records many k b tx rx s to x t r u) where
    pub onward_on : Gone records many from b₀ tx₀ rx₀ s₀ to x t r u
    onward_on = joined records many from b₀ tx₀ rx₀ s₀ k b tx rx s v to x t r u w.gone

    pub onward_less : k < many → many - to < many - k
    onward_less h = omega (arith, w.some, w.gone.within)

  pub room_now : k < many → k * 4 + 4 ≤ length s
  room_now h = omega (arith, v.list.room)

  pub record_now : k < many → k * 3 + 3 ≤ length records
  record_now h = omega (arith, v.list.bytes)

  -- the stores keep their lengths
  module _ (l : Lent records many from b₀ tx₀ rx₀ s₀) where
    pub tx_same : length tx ≡ length tx₀
    tx_same = v.fit.ready.tx_length ∙ sym l.fit.ready.tx_length

    pub rx_same : length rx ≡ length rx₀
    rx_same = v.fit.ready.rx_length ∙ sym l.fit.ready.rx_length

  module _ (h : k < many) where
    pub tick_again : get_or records (k * 3) 0 ≡ 3 → (sin : Bool) → sin ≡ eqb (get_or records (k * 3 + 2) 0) 1 → (a : Answer) (t r u : List ℕ)
        → out a t r ≡ turn layouts b tx rx (Tick sin) → u ≡ put s k (note_number a.note) a.sdo a.sout
        → Gone records many from b₀ tx₀ rx₀ s₀ (k + 1) a.state t r u
    tick_again e sin n a t r u o w =
        again records many from b₀ tx₀ rx₀ s₀ k b tx rx s v h (Tick sin)
        (ap Tick n ∙ tick_at records k (event_now records many from b₀ tx₀ rx₀ s₀ k b tx rx s v h) e) a t r u o w

clock_turn : (b : Bridge) (tx rx : List ℕ) (reading : ℕ)
    → out (record { state = clocked_by b reading (dog_fires b reading) (watch_fires b.clock reading); sdo = no_answer; sout = true; note = Done }) tx rx
    ≡ turn layouts b tx rx (ClockReading reading)
unfolding turn turned reacted clocked written
clock_turn b tx rx reading = refl

module _ (records : List ℕ) (many from : ℕ) (b₀ : Bridge) (tx₀ rx₀ s₀ : List ℕ) (k : ℕ) (b : Bridge) (tx rx s : List ℕ)
    (v : Gone records many from b₀ tx₀ rx₀ s₀ k b tx rx s) (h : k < many) (e : get_or records (k * 3) 0 ≡ 4) where
  clock_again : (reading : ℕ) → reading ≡ value_of (get_or records (k * 3 + 1) 0) (get_or records (k * 3 + 2) 0)
      → (fires : Bool) → fires ≡ watch_fires b.clock reading → (bites : Bool) → bites ≡ dog_fires b reading
      → (control : Control) → control ≡ control_at b.control bites fires b.receiving.rx.count → (u : List ℕ) → u ≡ put s k 0 no_answer true
      → Gone records many from b₀ tx₀ rx₀ s₀ (k + 1)
      (record {
        control = control;
        sending = b.sending;
        receiving = b.receiving;
        frame = b.frame;
        clock = clock_at b.clock reading fires;
      })
      tx
      rx
      u
  clock_again reading re fires fe bites be control ce u ue =
      again records many from b₀ tx₀ rx₀ s₀ k b tx rx s v h (ClockReading reading)
      (ap ClockReading re ∙ clock_at_lem records k (event_now records many from b₀ tx₀ rx₀ s₀ k b tx rx s v h) e)
      (record {
        state = record { control = control; sending = b.sending; receiving = b.receiving; frame = b.frame; clock = clock_at b.clock reading fires };
        sdo = no_answer;
        sout = true;
        note = Done;
      })
      tx rx u (rw (ce, be, fe) (clock_turn b tx rx reading)) ue

-- clock readings touch neither store
pub apart_begins : (records : List ℕ) (many from : ℕ) (b : Bridge) (s : List ℕ) → Ahead records s from many → Apart records many from b s from b s
apart_begins records many from b s a = record {
  each = λ tx rx f. begins records many from b tx rx s (record { list = a.list; fit = f; one = a.one });
  least = omega arith;
  list = a.list;
  size = refl;
}

module _ (records : List ℕ) (many from : ℕ) (b₀ : Bridge) (s₀ : List ℕ) (k : ℕ) (b : Bridge) (s : List ℕ)
    (v : Apart records many from b₀ s₀ k b s) where
  pub apart_last : from < many → many ≤ k → Further records many from b₀ s₀ k b s
  apart_last h l = record { apart = v; some = omega arith }

  pub apart_end : from < many → many ≤ k → k ≤ many → Further records many from b₀ s₀ many b s
  apart_end h l m = let z : k ≡ many = omega arith in subst (λ (n : ℕ). Further records many from b₀ s₀ n b s) z (apart_last h l)

  pub apart_other : (kind x : ℕ) → get_or records (from * 3) 0 ≡ kind → x ≡ get_or records (k * 3) 0 → (x ≡ kind → ⊥)
      → Further records many from b₀ s₀ k b s
  apart_other kind x h e n = record { apart = v; some = past records kind from k h (λ i. n (e ∙ i)) v.least }

  module _ (h : k < many) where
    pub apart_room : k * 4 + 4 ≤ length s
    apart_room = omega (arith, v.list.room)

    pub apart_record : k * 3 + 3 ≤ length records
    apart_record = omega (arith, v.list.bytes)

    pub clock_more : (x : ℕ) → x ≡ get_or records (k * 3) 0 → x ≡ 4 → (reading : ℕ) → reading ≡ value_of (get_or records (k * 3 + 1) 0) (get_or records (k * 3 + 2) 0)
        → (fires : Bool) → fires ≡ watch_fires b.clock reading → (bites : Bool) → bites ≡ dog_fires b reading
        → (control : Control) → control ≡ control_at b.control bites fires b.receiving.rx.count → (u : List ℕ) → u ≡ put s k 0 no_answer true
        → Apart records many from b₀ s₀ (k + 1)
        (record { control = control; sending = b.sending; receiving = b.receiving; frame = b.frame; clock = clock_at b.clock reading fires })
        u
    clock_more x xe e reading re fires fe bites be control ce u ue = record {
      each = λ tx rx f. clock_again records many from b₀ tx rx s₀ k b tx rx s (v.each tx rx f) h (sym xe ∙ e) reading re fires fe bites be control ce u ue;
      least = omega (arith, v.least);
      list = record { events = v.list.events; bytes = v.list.bytes; room = rw (ue, put_length) v.list.room };
      size = rw (ue, put_length) v.size;
    }

pub from_apart : (records : List ℕ) (many from : ℕ) (b₀ : Bridge) (tx rx s₀ : List ℕ) (k : ℕ) (b : Bridge) (s : List ℕ)
    → Lent records many from b₀ tx rx s₀ → Further records many from b₀ s₀ k b s → Onward records many from b₀ tx rx s₀ k b tx rx s
from_apart records many from b₀ tx rx s₀ k b s l v = record { gone = v.apart.each tx rx l.fit; some = v.some }

-- what a part is lent
pub lent_ahead : (records : List ℕ) (many from : ℕ) (b : Bridge) (tx rx s : List ℕ) → Lent records many from b tx rx s → Ahead records s from many
lent_ahead records many from b tx rx s l = record { list = l.list; one = l.one }

pub lent_room : (records : List ℕ) (many from : ℕ) (b : Bridge) (tx rx s : List ℕ) → Lent records many from b tx rx s → from * 4 + 4 ≤ length s
lent_room records many from b tx rx s l = omega (arith, l.list.room, l.one)

pub lent_record : (records : List ℕ) (many from : ℕ) (b : Bridge) (tx rx s : List ℕ) → Lent records many from b tx rx s → from * 3 + 3 ≤ length records
lent_record records many from b tx rx s l = omega (arith, l.list.bytes, l.one)

-- the first event of a part
module _ (records : List ℕ) (many from : ℕ) (b : Bridge) (tx rx s : List ℕ) (l : Lent records many from b tx rx s) where
  good : is_event records from ≡ true
  good = each_event records many l.list.events from l.one

  pub lent_read : (r : Option Event) → r ≡ record_at records from → IsSome r
  lent_read r e = is_read r (record_at records from) e good

  pub lent_release : get_or records (from * 3) 0 ≡ 2 → Release ≡ event_at records from
  lent_release h = release_at records from good h

  -- where it is of no other kind it is a word
  pub lent_word : (x : ℕ) → x ≡ get_or records (from * 3) 0 → (((Unit {0} × (x ≡ 0 → ⊥)) × (x ≡ 2 → ⊥)) × (x ≡ 3 → ⊥)) × (x ≡ 4 → ⊥)
      → get_or records (from * 3) 0 ≡ 1
  lent_word x e n =
      word_only records from good (λ i. n.0.0.0.1 (e ∙ i)) (λ i. n.0.0.1 (e ∙ i)) (λ i. n.0.1 (e ∙ i)) (λ i. n.1 (e ∙ i))

  pub alone_part : (e : Event) → e ≡ event_at records from → (a : Answer) (t r u : List ℕ) → out a t r ≡ turn layouts b tx rx e
      → u ≡ put s from (note_number a.note) a.sdo a.sout → Onward records many from b tx rx s (from + 1) a.state t r u
  alone_part e i a t r u o w = record {
    gone = again records many from b tx rx s from b tx rx s (begins records many from b tx rx s l) l.one e i a t r u o w;
    some = omega arith;
  }
