-- Laws of a run of such words, as the functions' proofs ask them. Assumes nothing.
use mathlib.Core.Path.{◌≡◌, refl, sym, ◌∙◌, ap, subst}
use mathlib.Core.Bool.{Bool, true, false}
use mathlib.Core.List.{List}
use Prim.Native.Nat.{ℕ, suc, ◌+◌, ◌-◌, ◌*◌, ◌%◌, ◌<◌, ◌≤◌}
use native.Mathlib.Omega.{arith}
use lib.Dec.{ltb}
use lib.ListN.{length, length-set, get_or, set}
use borrow.Author.Tests.{lt-ltb, le-ltb}
use Rattle.base.specs.Pick.{pick, pick_true, pick_false}
use Rattle.base.specs.Truth.{never}
use Rattle.command.specs.Layouts.{layouts}
use Rattle.crc16.specs.Crc.{crc_word}
use Rattle.state.specs.Facts.{HostFit}
use Rattle.state.specs.Frame.{mine_of}
use Rattle.state.specs.Notes.{note_number}
use Rattle.state.specs.declared.Bridge.{Bridge}
use Rattle.state.specs.declared.Note.{Note}
use Rattle.state.specs.declared.Note.TheVariants.{Done}
use Rattle.state.specs.declared.Phase.{Phase}
use Rattle.state.specs.declared.Phase.TheVariants.{Idle, Collecting, Answering, Discarding}
use Rattle.plan.specs.Plan.{no_answer}
use Rattle.events.specs.Turn.{Out, out, turn}
use Rattle.events.specs.declared.Event.TheVariants.{Word}
use Rattle.bridge.specs.Fit.{Fit, Kept}
use Rattle.bridge.proofs.Keeping.{turn_keeps}
use Rattle.script.specs.Script.{value_of}
use Rattle.listing.specs.Records.{event_at}
use Rattle.listing.specs.Results.{put}
use Rattle.listing.specs.Run.{Moment, put_answer, list_of, Ahead}
use Rattle.listing.proofs.Records.{each_event, word_at}
use Rattle.listing.proofs.Laws.{put_length}
use Rattle.pouring.specs.Pour.{bed_of, stream, stream_of, pours, mine_on, poured_on, stays, stay_note, poured, poured_by}
use Rattle.pouring.specs.Poured.{Poured}
use Rattle.pouring.specs.declared.Bed.{Bed}
use Rattle.pouring.specs.declared.Stream.{Stream}
use Rattle.pouring.proofs.Words.{answer, fits, Pours, pour_turn, same_count, still_turn}

-- 1. The start.

none_poured : (from : ℕ) (b : Bridge) (st : Stream) → b ≡ poured_by (ltb from from) b st
none_poured from b st = pick_false (ltb from from) b _ _ (le-ltb from from (omega arith)) refl

own_words : (p : Phase) (n : ℕ) → mine_of p ≤ n → (stream_of p n).mine ≤ n
unfolding stream_of mine_of
own_words Idle n h = h
own_words (Collecting command got sum mine released blocked) n h = h
own_words (Answering reply sum) n h = h
own_words Discarding n h = h

pub pour_begins : (records : List ℕ) (many : ℕ) (b : Bridge) (from : ℕ) (st : Stream) (tx s : List ℕ) → HostFit b → Ahead records s from many
    → st ≡ stream_of b.frame.phase b.sending.tx.count → Poured records many b from tx s from st tx s
pour_begins records many b from st tx s f l e = record {
  whole = λ rx. ap (λ (x : Bridge). list_of records (many - from) from x tx rx s) (sym (none_poured from b st));
  fit = λ rx i. subst (λ (x : Bridge). Fit x tx rx) (none_poured from b st) i;
  least = omega arith;
  most = omega (arith, l.one);
  size = refl;
  cells = refl;
  first = λ z. e;
  few = rw (e, same_count) f.sending.tx.count;
  own = rw (e, same_count) (own_words b.frame.phase b.sending.tx.count f.mine);
}

-- 2. One word more: what `turn` gives of it, the run does.

module _ (records : List ℕ) (many : ℕ) (b : Bridge) (from : ℕ) (tx₀ s₀ : List ℕ) (k : ℕ) (st : Stream) (tx s : List ℕ)
    (v : Poured records many b from tx₀ s₀ k st tx s) (l : Ahead records s₀ from many) (i : k < many) (one-kind : get_or records (k * 3) 0 ≡ 1)
    (w : ℕ) (we : w ≡ value_of (get_or records (k * 3 + 1) 0) (get_or records (k * 3 + 2) 0)) (x : Stream) (n : Note) (t : List ℕ)
    (word-turn : (rx : List ℕ) → turn layouts (poured_by (ltb from k) b st) tx rx (Word w) ≡ out (answer (poured b x) n) t rx) where
  abbrev before : Bridge
  before = poured_by (ltb from k) b st

  abbrev after : List ℕ
  after = put s k (note_number n) no_answer true

  turned : (rx : List ℕ) → turn layouts before tx rx (event_at records k) ≡ out (answer (poured b x) n) t rx
  turned rx =
      ap (turn layouts before tx rx) (sym (ap Word we ∙ word_at records k (each_event records many l.list.events k i) one-kind)) ∙ word-turn rx

  abbrev on : Out → Moment
  on o = list_of records (many - (k + 1)) (k + 1) o.answer.state o.tx o.rx (put_answer s k o.answer)

  one : (rx : List ℕ) → on (turn layouts before tx rx (event_at records k)) ≡ list_of records (many - k) k before tx rx s
  unfolding list_of
  one rx = let z : many - k ≡ suc (many - (k + 1)) = omega arith in sym (ap (λ (m : ℕ). list_of records m k before tx rx s) z)

  begun : ltb from (k + 1) ≡ true
  begun = lt-ltb from (k + 1) (omega (arith, v.least))

  some_poured : poured b x ≡ poured_by (ltb from (k + 1)) b x
  some_poured = pick_true (ltb from (k + 1)) _ _ _ begun refl

  one_more : length t ≡ length tx → x.count ≤ 512 → x.mine ≤ x.count → Poured records many b from tx₀ s₀ (k + 1) x t after
  one_more e f o = record {
    whole = λ rx. subst (λ (y : Bridge). list_of records (many - (k + 1)) (k + 1) y t rx after ≡ list_of records (many - from) from b tx₀ rx s₀)
        some_poured (sym (ap on (turned rx)) ∙ one rx ∙ v.whole rx);
    fit = λ rx g. subst (λ (y : Bridge). Fit y t rx) some_poured
        (subst Kept (turned rx) (turn_keeps before tx rx (event_at records k) (v.fit rx g)));
    least = omega (arith, v.least);
    most = omega arith;
    size = rw put_length v.size;
    cells = e ∙ v.cells;
    first = λ z. never (ltb from (k + 1)) begun z;
    few = f;
    own = o;
  }

-- 3. A forward's data words.

mine_within : (released : Bool) (mine count : ℕ) → mine ≤ count → mine_on mine released ≤ count + 1
unfolding mine_on pick
mine_within true mine count h = omega arith
mine_within false mine count h = omega arith

module _ (records : List ℕ) (many : ℕ) (b : Bridge) (from : ℕ) (tx₀ s₀ : List ℕ) (k : ℕ) (st : Stream) (tx s : List ℕ)
    (v : Poured records many b from tx₀ s₀ k st tx s) (l : Ahead records s₀ from many) (i : k < many) (d : Bed) (de : d ≡ bed_of b.frame.phase)
    (df : d.flows ≡ true) (one-kind : get_or records (k * 3) 0 ≡ 1) (w : ℕ) (we : w ≡ value_of (get_or records (k * 3 + 1) 0) (get_or records (k * 3 + 2) 0))
    (go : Bool) (ge : go ≡ pours st d b.control.regs.txfflvl) (gt : go ≡ true) where
  poured_turn : (rx : List ℕ) → turn layouts (poured_by (ltb from k) b st) tx rx (Word w)
      ≡ out (answer (poured b (poured_on st d.released w)) Done) (set tx ((b.sending.tx.head + st.count) % 512) w) rx
  poured_turn rx =
      subst (λ (y : Bed). Pours (ltb from k) b st w tx rx v.first y) (sym de) (pour_turn (ltb from k) b st w tx rx v.first) df (sym ge ∙ gt)

  pub pour_more : (got crc mine : ℕ) (t u : List ℕ) → got ≡ st.got + 1 → crc ≡ crc_word st.crc w → mine ≡ mine_on st.mine d.released
      → t ≡ set tx ((b.sending.tx.head + st.count) % 512) w → u ≡ put s k 0 no_answer true
      → Poured records many b from tx₀ s₀ (k + 1) (stream got crc mine (st.count + 1)) t u
  pour_more got crc mine t u gote ce me te ue =
      rw (gote, ce, me, te, ue)
      (one_more records many b from tx₀ s₀ k st tx s v l i one-kind w we (poured_on st d.released w) Done _ poured_turn (length-set tx _ w)
      (omega (arith, fits st d b.control.regs.txfflvl go ge gt)) (mine_within d.released st.mine st.count v.own))

-- 4. Words that leave the frame as it is, whatever TX holds.

pub record Still (records : List ℕ) (many : ℕ) (b : Bridge) (from : ℕ) (s₀ : List ℕ) (k : ℕ) (st : Stream) (s : List ℕ) : Type 0 where
  pub words : (tx : List ℕ) → Poured records many b from tx s₀ k st tx s
  pub size : length s ≡ length s₀

pub still_begins : (records : List ℕ) (many : ℕ) (b : Bridge) (from : ℕ) (st : Stream) (s : List ℕ) → HostFit b → Ahead records s from many
    → st ≡ stream_of b.frame.phase b.sending.tx.count → Still records many b from s from st s
still_begins records many b from st s f l e = record { words = λ tx. pour_begins records many b from st tx s f l e; size = refl }

module _ (records : List ℕ) (many : ℕ) (b : Bridge) (from : ℕ) (s₀ : List ℕ) (k : ℕ) (st : Stream) (s : List ℕ)
    (v : Still records many b from s₀ k st s) (l : Ahead records s₀ from many) (se : st ≡ stream_of b.frame.phase b.sending.tx.count)
    (i : k < many) (one-kind : get_or records (k * 3) 0 ≡ 1) (w : ℕ) (we : w ≡ value_of (get_or records (k * 3 + 1) 0) (get_or records (k * 3 + 2) 0))
    (go : Bool) (ge : go ≡ stays b.frame.phase w) (gt : go ≡ true) where
  pub still_more : (n : Note) (u : List ℕ) → n ≡ stay_note b.frame.phase → u ≡ put s k (note_number n) no_answer true
      → Still records many b from s₀ (k + 1) st u
  still_more n u ne ue = record {
    words = λ tx. rw (ue, ne)
        (one_more records many b from tx s₀ k st tx s (v.words tx) l i one-kind w we st (stay_note b.frame.phase) tx
        (λ rx. still_turn (ltb from k) b st w tx rx se (sym ge ∙ gt)) refl (v.words tx).few (v.words tx).own);
    size = rw (ue, put_length) v.size;
  }

pub with_tx : (records : List ℕ) (many : ℕ) (b : Bridge) (from : ℕ) (s₀ : List ℕ) (k : ℕ) (st : Stream) (s tx : List ℕ)
    → ((t : List ℕ) → Poured records many b from t s₀ k st t s) → Poured records many b from tx s₀ k st tx s
with_tx records many b from s₀ k st s tx v = v tx
