-- Laws of a list's records and of the four bytes, as the functions' proofs ask them. Assumes nothing.
use Rattle.std.specs.Prelude.{Option, None, Some}
use Rattle.std.specs.Option.{is_some, unwrap_or}
use mir.Val.{bool_byte}
use mathlib.Core.Path.{◌≡◌, refl, sym, ◌∙◌, ap, subst}
use mathlib.Core.Bool.{Bool, true, false, ◌&&◌}
use mathlib.Core.List.{List}
use Prim.Native.Nat.{ℕ, zero, suc, ◌+◌, ◌-◌, ◌*◌, ◌%◌, ◌<◌, ◌≤◌, zero-le}
use native.Mathlib.Nat.{not-suc-le-zero}
use native.Mathlib.Numerals.{add-one}
use native.Mathlib.Omega.{arith}
use lib.Dec.{leb, eqb}
use lib.ListN.{get_or}
use borrow.Author.Tests.{leb-true}
use borrow.Author.Count.{below_more}
use Rattle.base.specs.Pick.{pick, pick_keeps, and_l, and_r, and_both}
use Rattle.state.specs.Notes.{note_number}
use Rattle.state.specs.declared.Note.{Note}
use Rattle.state.specs.declared.Note.TheVariants.{Done, WrongStores, BrokenRecord, MalformedWord, Discarded, Blocked, CrcRefused, CrcWrong, TxFull, QueueFull, LineBusy, ResetRefused, CutShort, TxEmpty, RxFull, RxEmpty}
use Rattle.events.specs.declared.Event.{Event}
use Rattle.events.specs.declared.Event.TheVariants.{Word, Release, Tick, Clock}
use Rattle.script.specs.Script.{value_of, tick_record, release_record, record_of}
use Rattle.listing.specs.Records.{is_good, event_of, is_event, event_at, all_events}
use Rattle.listing.specs.Results.{bit_byte}

-- a record is an event where something was read
pub to_good : (r g : Option Event) (x : Bool) → r ≡ g → x ≡ is_some r → x ≡ is_good g
unfolding is_good
to_good (Some e) g x h i = rw (← h) i
to_good None g x h i = rw (← h) i

-- and the event is what was read
pub to_event : (r g : Option Event) (x : Event) → r ≡ g → x ≡ unwrap_or r Release → x ≡ event_of g
unfolding event_of
to_event (Some e) g x h i = rw (← h) i
to_event None g x h i = rw (← h) i

-- what each arm gives, of a record that is an event
abbrev Gives : Event → Option Event → Type 0
Gives e r = is_good r ≡ true → e ≡ event_of r

tick_event : (value : ℕ) → Gives (Tick (eqb value 1)) (tick_record value)
unfolding tick_record is_good event_of
tick_event value = pick_keeps (Gives (Tick (eqb value 1))) _ _ _ (λ h g. refl) (λ h g. cc)

release_event : (value : ℕ) → Gives Release (release_record value)
unfolding release_record is_good event_of
release_event value = pick_keeps (Gives Release) _ _ _ (λ h g. refl) (λ h g. cc)

module _ (kind value : ℕ) (g : is_good (record_of kind value) ≡ true) where
  at_kind : (k : ℕ) (e : Event) → kind ≡ k → Gives e (record_of k value) → e ≡ event_of (record_of kind value)
  at_kind k e h f = subst (λ (n : ℕ). Gives e (record_of n value)) (sym h) f g

  to_word : kind ≡ 1 → Word value ≡ event_of (record_of kind value)
  unfolding record_of event_of
  to_word h = at_kind 1 _ h (λ i. refl)

  to_release : kind ≡ 2 → Release ≡ event_of (record_of kind value)
  unfolding record_of
  to_release h = at_kind 2 _ h (release_event value)

  to_tick : kind ≡ 3 → Tick (eqb value 1) ≡ event_of (record_of kind value)
  unfolding record_of
  to_tick h = at_kind 3 _ h (tick_event value)

  to_clock : kind ≡ 4 → Clock value ≡ event_of (record_of kind value)
  unfolding record_of event_of
  to_clock h = at_kind 4 _ h (λ i. refl)

none_beyond : (n value : ℕ) → is_good (record_of (suc (suc (suc (suc (suc n))))) value) ≡ true → ⊥
unfolding record_of is_good
none_beyond n value g = let z : ◌≡◌ {A = ℕ} 0 1 = cc in omega arith

of_word : (kind value : ℕ) → is_good (record_of kind value) ≡ true → (kind ≡ 0 → ⊥) → (kind ≡ 2 → ⊥) → (kind ≡ 3 → ⊥) → (kind ≡ 4 → ⊥) → kind ≡ 1
of_word zero value g h0 h2 h3 h4 = absurd (h0 refl)
of_word (suc zero) value g h0 h2 h3 h4 = refl
of_word (suc (suc zero)) value g h0 h2 h3 h4 = absurd (h2 refl)
of_word (suc (suc (suc zero))) value g h0 h2 h3 h4 = absurd (h3 refl)
of_word (suc (suc (suc (suc zero)))) value g h0 h2 h3 h4 = absurd (h4 refl)
of_word (suc (suc (suc (suc (suc n))))) value g h0 h2 h3 h4 = absurd (none_beyond n value g)

small : (value : ℕ) → is_good (tick_record value) ≡ true → leb value 1 ≡ true
unfolding tick_record is_good
small value = pick_keeps (λ (r : Option Event). is_good r ≡ true → leb value 1 ≡ true) _ _ _ (λ h g. h) (λ h g. cc)

tick_small : (kind value : ℕ) → kind ≡ 3 → is_good (record_of kind value) ≡ true → value ≤ 1
unfolding record_of
tick_small kind value h g = leb-true _ _ (small value (subst (λ (n : ℕ). is_good (record_of n value) ≡ true) h g))

-- a kind, by the bytes of record k; a tick's value is its low byte
module _ (s : List ℕ) (k : ℕ) (g : is_event s k ≡ true) where
  abbrev kind : ℕ
  kind = get_or s (k * 3) 0

  abbrev high : ℕ
  high = get_or s (k * 3 + 1) 0

  abbrev low : ℕ
  low = get_or s (k * 3 + 2) 0

  pub word_at : kind ≡ 1 → Word (value_of high low) ≡ event_at s k
  word_at h = to_word kind (value_of high low) g h

  pub release_at : kind ≡ 2 → Release ≡ event_at s k
  release_at h = to_release kind (value_of high low) g h

  pub tick_at : kind ≡ 3 → Tick (eqb low 1) ≡ event_at s k
  tick_at h =
      let l : value_of high low ≤ 1 = tick_small kind (value_of high low) h g in
      let z : value_of high low ≡ low = omega arith in
      ap (λ (v : ℕ). Tick (eqb v 1)) (sym z) ∙ to_tick kind (value_of high low) g h

  pub clock_at_lem : kind ≡ 4 → Clock (value_of high low) ≡ event_at s k
  clock_at_lem h = to_clock kind (value_of high low) g h

  -- of no other kind
  pub word_only : (kind ≡ 0 → ⊥) → (kind ≡ 2 → ⊥) → (kind ≡ 3 → ⊥) → (kind ≡ 4 → ⊥) → kind ≡ 1
  word_only h0 h2 h3 h4 = of_word kind (value_of high low) g h0 h2 h3 h4

-- each of the records before the first that was not looked at
pub each_event : (s : List ℕ) (n : ℕ) → all_events s n ≡ true → (k : ℕ) → k < n → is_event s k ≡ true
unfolding all_events
each_event s zero h k l = absurd (not-suc-le-zero l)
each_event s (suc n) h k l =
    below_more (λ (j : ℕ). is_event s j ≡ true) n (each_event s n (and_l (all_events s n) (is_event s n) h)) (and_r (all_events s n) (is_event s n) h) k (rw add-one l)

pub none_yet : (s : List ℕ) → all_events s 0 ≡ true
unfolding all_events
none_yet s = refl

pub one_more : (s : List ℕ) (k : ℕ) (t : Bool) → all_events s k ≡ true → t ≡ is_event s k → t ≡ true → all_events s (k + 1) ≡ true
unfolding all_events
one_more s k t a e h = rw add-one (and_both _ _ a (sym e ∙ h))

by_cases : (a : Bool) → (a ≡ true → ⊥) → false ≡ a
by_cases true f = absurd (f refl)
by_cases false f = refl

never : (t : Bool) → t ≡ true → t ≡ false → ⊥
never t p q = let z : ◌≡◌ {A = ℕ} 0 1 = cc in omega arith

pub one_bad : (s : List ℕ) (n k : ℕ) (t : Bool) → k < n → t ≡ is_event s k → t ≡ false → false ≡ all_events s n
one_bad s n k t l e h = by_cases _ (λ a. never (is_event s k) (each_event s n a k l) (sym e ∙ h))

pub all_good : (s : List ℕ) (n k : ℕ) → all_events s k ≡ true → n ≤ k → k ≤ n → true ≡ all_events s n
all_good s n k a h i = let z : k ≡ n = omega arith in sym (sym (ap (all_events s) z) ∙ a)

-- a bit's byte
pub to_bit : (b : Bool) → bool_byte b ≡ bit_byte b
unfolding bit_byte
to_bit true = refl
to_bit false = refl

-- a note's number is a byte
pub to_byte : (n : Note) (r : ℕ) → r ≡ note_number n → r % 256 ≡ note_number n
to_byte Done r h = rw h refl
to_byte WrongStores r h = rw h refl
to_byte BrokenRecord r h = rw h refl
to_byte MalformedWord r h = rw h refl
to_byte Discarded r h = rw h refl
to_byte Blocked r h = rw h refl
to_byte CrcRefused r h = rw h refl
to_byte CrcWrong r h = rw h refl
to_byte TxFull r h = rw h refl
to_byte QueueFull r h = rw h refl
to_byte LineBusy r h = rw h refl
to_byte ResetRefused r h = rw h refl
to_byte CutShort r h = rw h refl
to_byte TxEmpty r h = rw h refl
to_byte RxFull r h = rw h refl
to_byte RxEmpty r h = rw h refl
