-- What is refused, and that nothing else is told. Assumes nothing.
use Rattle.std.specs.Prelude.{Option, None, Some, Err}
use mathlib.Core.Path.{◌≡◌, refl, sym, ◌∙◌, ap, ap₂, subst}
use mathlib.Core.Bool.{true, false}
use mathlib.Core.List.{List, [], ◌∷◌, ◌++◌}
use Prim.Native.Nat.{ℕ, suc, ◌+◌, ◌<◌}
use native.Mathlib.Omega.{arith}
use lib.Dec.{eqb}
use lib.ListN.{length, get_or, take, drop}
use lib.Seq.{split_at, drop-length, length-take-le}
use borrow.Author.Tests.{lt-leb, eqb-true}
use Rattle.base.specs.Pick.{pick_true, pick_false, pick_keeps, and_l, and_r}
use Rattle.layout.specs.declared.Layout.{Layout}
use Rattle.crc16.specs.Crc.{crc_from}
use Rattle.frames.specs.Answers.{is_answer, answer_of, due_of, told_by, told_of}
use Rattle.frames.specs.Frames.{beside, checked, out, written_of}
use Rattle.frames.specs.Orders.{fields_within, words_within, within, meant}
use Rattle.frames.specs.declared.Due.{Due}
use Rattle.frames.specs.declared.Due.TheVariants.{StatusDue, DataDue}
use Rattle.frames.specs.declared.Order.{Order}
use Rattle.frames.specs.declared.Order.TheVariants.{FwdWrCrc, FwdWr, FwdWrEndCrc, FwdWrEnd, FwdRdEndCrc, FwdRdEnd, DataRdCrc, DataRd, RegWrCrc, RegWr, RegRdCrc, RegRd, SoftResetCrc}
use Rattle.frames.specs.declared.Told.{Told}
use Rattle.frames.specs.declared.Told.TheVariants.{Status, Data}
use Rattle.frames.specs.declared.WriteError.TheVariants.{OutsideLimits, BufferShort}
use Rattle.frames_found.specs.Answered.{answered_with}
use Rattle.frames_found.specs.HostFrames.{Exactly}

module _ (k : Layout) (s : ℕ) (o : Order) (words buffer : List ℕ) where
  pub outside : within o (length words) ≡ false → written_of k s o words buffer ≡ out (Err OutsideLimits) buffer
  unfolding written_of
  outside h = sym (pick_false _ _ _ _ h refl)

  pub short : within o (length words) ≡ true → length buffer < length words + beside → written_of k s o words buffer ≡ out (Err BufferShort) buffer
  unfolding written_of
  short h m = sym (pick_true _ _ _ _ h (pick_false _ _ _ _ (lt-leb _ _ m) refl))

-- the answer is due that the bridge gives to the command
given_to : (o : Order) (n : ℕ) → Some (answer_of o) ≡ answered_with (meant o n)
given_to FwdWrCrc n = refl
given_to FwdWr n = refl
given_to (FwdWrEndCrc ends) n = refl
given_to (FwdWrEnd ends) n = refl
given_to (FwdRdEndCrc ends) n = refl
given_to (FwdRdEnd ends) n = refl
given_to (DataRdCrc count) n = refl
given_to (DataRd count) n = refl
given_to (RegWrCrc address) n = refl
given_to (RegWr address) n = refl
given_to (RegRdCrc address count) n = refl
given_to (RegRd address count) n = refl
given_to SoftResetCrc n = refl

pub due_is : (o : Order) (n : ℕ) → within o n ≡ true → due_of o ≡ answered_with (meant o n)
unfolding due_of
due_is o n h = sym (pick_true _ _ _ _ (and_l (fields_within o) (words_within o n) h) refl) ∙ given_to o n

-- what passes as an answer is so many words and their CRC
exactly : (s n : ℕ) (words : List ℕ) → is_answer s n words ≡ true → Exactly s n words
unfolding is_answer
exactly s n words t =
    let l = eqb-true (length words) (n + 1) (and_l (eqb (length words) (n + 1)) (eqb (get_or words n 0) (crc_from s (take n words))) t) in
    let c = eqb-true (get_or words n 0) (crc_from s (take n words)) (and_r (eqb (length words) (n + 1)) _ t) in
    let m : n < length words = omega (arith, l) in
    let e : suc n ≡ length words = omega (arith, l) in
    record {
      given = take n words;
      so_many = length-take-le n words (omega (arith, l));
      words_are =
          split_at words n 0 m
          ∙ ap₂ (λ (x : ℕ) (xs : List ℕ). take n words ++ (x ∷ xs)) c (ap (λ (k : ℕ). drop k words) e ∙ drop-length words);
    }

-- what is told says which answer it is
abbrev Right : ℕ → List ℕ → Option Told → Type 0
Right s words (Some (Status value)) = Exactly s 1 words × (get_or words 0 0 ≡ value)
Right s words (Some (Data count)) = Exactly s count words
Right s words None = Unit {0}

right_by : (s : ℕ) (d : Option Due) (words : List ℕ) → Right s words (told_by s d words)
unfolding told_by
right_by s None words = tt
right_by s (Some StatusDue) words = pick_keeps (Right s words) (is_answer s 1 words) _ _ (λ t. (exactly s 1 words t, refl)) (λ t. tt)
right_by s (Some (DataDue count)) words = pick_keeps (Right s words) (is_answer s count words) _ _ (λ t. exactly s count words t) (λ t. tt)

right : (s : ℕ) (o : Order) (words : List ℕ) → Right s words (told_of s o words)
unfolding told_of
right s o words = right_by s (due_of o) words

pub status_right : (s : ℕ) (o : Order) (words : List ℕ) (value : ℕ) → told_of s o words ≡ Some (Status value) → words ≡ checked s (value ∷ [])
status_right s o words value e =
    let r : Right s words (Some (Status value)) = subst (Right s words) e (right s o words) in
    status_of_lem words value r.0 r.1
  where
    status_of_lem : (words : List ℕ) (value : ℕ) → Exactly s 1 words → get_or words 0 0 ≡ value → words ≡ checked s (value ∷ [])
    status_of_lem words value x v = one x.given x.so_many x.words_are
      where
        one : (given : List ℕ) → length given ≡ 1 → words ≡ checked s given → words ≡ checked s (value ∷ [])
        one [] l w = absurd (omega (arith, l))
        one (g ∷ []) l w = let same : g ≡ value = sym (ap (λ (xs : List ℕ). get_or xs 0 0) w) ∙ v in w ∙ ap (λ (y : ℕ). checked s (y ∷ [])) same
        one (g ∷ (h ∷ gs)) l w = absurd (omega (arith, l))

pub data_right : (s : ℕ) (o : Order) (words : List ℕ) (count : ℕ) → told_of s o words ≡ Some (Data count) → Exactly s count words
data_right s o words count e = subst (Right s words) e (right s o words)
