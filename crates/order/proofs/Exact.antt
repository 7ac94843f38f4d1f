-- The line is exactly an encoding: 1s and whole commands, then the bits of the command under way. What the line reads as follows by the laws
-- of the round trip. Assumes nothing.
use mathlib.Core.Path.{◌≡◌, refl, ap, sym, ◌∙◌}
use mathlib.Core.Bool.{Bool, true, false}
use mathlib.Core.List.{List, [], ◌∷◌, ◌++◌, append_assoc, append-nil}
use mathlib.Core.Logic.{⊎_elim}
use Prim.Native.Nat.{ℕ, zero, suc, ◌+◌, ◌-◌, ◌≤◌, ◌<◌}
use native.Mathlib.Numerals.{add-one}
use native.Mathlib.Omega.{arith}
use lib.ListN.{length, take, replicate}
use Rattle.line.specs.declared.Piece.{Piece}
use Rattle.line.specs.declared.Piece.TheVariants.{Pause, StartBit, WordPiece, EndPiece}
use Rattle.line.specs.declared.Ear.TheVariants.{Quiet}
use Rattle.line.specs.Format.{end_length, check_bit, word_bits, end_bits, words_bits, Segment, idle, command, encode, commands_of, Words, Sixteen, piece_length, piece_bit}
use Rattle.line.specs.Reader.{Reading, read_bits, read_line, Sent}
use Rattle.line.proofs.Pieces.{Pos, out, within, at, up_to, after, Fits, part, shows_at}
use Rattle.line.proofs.Trip.{tabulate, piece_bits, piece_bits_lem, read_append, read_cons, read_tabulate, read_piece, read_start, round_trip}
use Rattle.state.specs.declared.Sender.{Sender}
use Rattle.order.specs.Exactly.{Spot, away, inside, line_at, Proper, commands_at, words_at, onward, first_bits, Follows, Exactly, Whole}
use Rattle.order.proofs.Account.{counted, assign, concat, lengths, words_snoc, words_take, Agrees, agrees_sent, agrees_before, Account, account_agrees, next_word, next_end, next_start, account_push, account_queue, account_back, sum, all_there, account_owes, account_listed, account_front, account_fresh}

-- The last check bit of a command so far; with no words, its start bit.
unfoldable pub last_check : Bool → List ℕ → Bool
last_check b [] = b
last_check b (w ∷ ws) = last_check (check_bit w) ws

unfoldable pub to_pos : Spot → Pos
to_pos (away segments) = out (commands_of segments)
to_pos (inside segments words) = within (commands_of segments) words (last_check false words)

commands_append : (a b : List Segment) → commands_of (a ++ b) ≡ commands_of a ++ commands_of b
unfolding commands_of
commands_append [] b = refl
commands_append (idle ∷ a) b = commands_append a b
commands_append (command ws ∷ a) b = ap (λ l. ws ∷ l) (commands_append a b)

encode_append : (a b : List Segment) → encode (a ++ b) ≡ encode a ++ encode b
unfolding encode
encode_append [] b = refl
encode_append (idle ∷ a) b = ap (λ l. true ∷ l) (encode_append a b)
encode_append (command ws ∷ a) b = rw (encode_append a b) (simp append_assoc)

bits_snoc : (a : List ℕ) (w : ℕ) → words_bits (a ++ (w ∷ [])) ≡ words_bits a ++ word_bits w
unfolding words_bits
bits_snoc [] w = append-nil (word_bits w)
bits_snoc (x ∷ a) w = rw (bits_snoc a w, append_assoc)

check_snoc : (b : Bool) (a : List ℕ) (w : ℕ) → last_check b (a ++ (w ∷ [])) ≡ check_bit w
unfolding last_check
check_snoc b [] w = refl
check_snoc b (x ∷ a) w = check_snoc (check_bit x) a w

-- The two accounts of a place agree after every piece.
pos_onward : (u : Piece) (s : Spot) → Fits u (to_pos s) → to_pos (onward u s) ≡ after u (to_pos s)
unfolding to_pos onward after
pos_onward Pause s f = refl
pos_onward StartBit (away segments) f = unfold last_check in refl
pos_onward StartBit (inside segments words) f = refl
pos_onward EndPiece (away segments) f =
    ap out (commands_append segments (replicate end_length idle) ∙ (unfold commands_of in append-nil (commands_of segments)))
pos_onward EndPiece (inside segments words) f = ap out (commands_append segments (command words ∷ []) ∙ (unfold commands_of in refl))
pos_onward (WordPiece w) (away segments) f = refl
pos_onward (WordPiece w) (inside segments words) f = ap (within (commands_of segments) (words ++ (w ∷ []))) (check_snoc false words w)

end_ones : end_bits ≡ encode (replicate end_length idle)
unfolding end_bits encode
end_ones = refl

one_command : (ws : List ℕ) → encode (command ws ∷ []) ≡ false ∷ (words_bits ws ++ end_bits)
unfolding encode
one_command ws = rw append-nil

-- A whole piece leads from the line at its place to the line at the next.
line_onward : (u : Piece) (s : Spot) → Fits u (to_pos s) → line_at s ++ piece_bits u ≡ line_at (onward u s)
unfolding to_pos onward line_at
line_onward Pause s f = append-nil _
line_onward StartBit (away segments) f = unfold words_bits in refl
line_onward StartBit (inside segments words) f = absurd f
line_onward EndPiece (away segments) f = rw encode_append (ap (λ l. encode segments ++ l) end_ones)
line_onward EndPiece (inside segments words) f =
    rw (encode_append, append_assoc) (ap (λ l. encode segments ++ l) (sym (one_command words)))
line_onward (WordPiece w) (away segments) f = absurd f
line_onward (WordPiece w) (inside segments words) f = rw (bits_snoc, append_assoc)

sixteen_append : (a b : List Segment) → Sixteen a → Sixteen b → Sixteen (a ++ b)
sixteen_append [] b p q = q
sixteen_append (idle ∷ a) b p q = sixteen_append a b p q
sixteen_append (command ws ∷ a) b p q = (p.0, sixteen_append a b p.1 q)

proper_onward : (u : Piece) (s : Spot) → Fits u (to_pos s) → Proper s → Proper (onward u s)
unfolding onward to_pos
proper_onward Pause s f p = p
proper_onward StartBit (away segments) f p = (p, tt)
proper_onward StartBit (inside segments words) f p = p
proper_onward EndPiece (away segments) f p = sixteen_append segments (replicate end_length idle) p tt
proper_onward EndPiece (inside segments words) f p = sixteen_append segments (command words ∷ []) p.0 (p.1, tt)
proper_onward (WordPiece w) (away segments) f p = p
proper_onward (WordPiece w) (inside segments words) f p = (p.0, words_snoc words w p.1 f)

-- What the line at a place reads as.
read_onward : (finished : List (List ℕ)) (words : List ℕ) (b : Bool) (ws : List ℕ) → Words ws
    → read_bits (at (within finished words b)) (words_bits ws) ≡ at (within finished (words ++ ws) (last_check b ws))
unfolding words_bits last_check after
read_onward finished words b [] k = rw append-nil (unfold read_bits in refl)
read_onward finished words b (w ∷ ws) k =
    rw (read_append, read_piece (WordPiece w) (within finished words b) k.0, ← (append_assoc words (w ∷ []) ws))
    (read_onward finished (words ++ (w ∷ [])) (check_bit w) ws k.1)

from_out : (bs : List Bool) → read_line bs ≡ read_bits (at (out [])) bs
unfolding read_line at
from_out bs = refl

read_away : (segments : List Segment) → Sixteen segments → read_line (encode segments) ≡ at (out (commands_of segments))
unfolding at
read_away segments p = round_trip segments p

pub read_spot : (s : Spot) → Proper s → read_line (line_at s) ≡ at (to_pos s)
unfolding to_pos line_at
read_spot (away segments) p = read_away segments p
read_spot (inside segments words) p =
    rw (from_out, read_append, ← (from_out (encode segments)), read_away segments p.0, read_cons, read_start)
    (read_onward (commands_of segments) [] false words p.1)

-- The invariant of the sending side: the line's bits, the words H in TX and the counts W that wait, for the words S and the counts K.
pub record Exact (t : Sender) (H W : List ℕ) (bits : List Bool) (S K : List ℕ) : Type 0 where
  pub spot : Spot
  pub proper : Proper spot
  pub fits : Fits t.piece (to_pos spot)
  pub short : t.gone ≤ piece_length t.piece
  pub is : bits ≡ line_at spot ++ tabulate (piece_bit t.piece) t.gone
  pub account : Account (to_pos (onward t.piece spot)) t.left t.ends H W S K
  pub low : Words S

-- the sender in a piece
abbrev pub sends : Piece → ℕ → ℕ → ℕ → Sender
sends u gone left ends = record { piece = u; gone = gone; left = left; ends = ends }

-- A tick: a bit more of the piece.
pub exact_on : (t : Sender) (H W : List ℕ) (bits : List Bool) (S K : List ℕ) → Exact t H W bits S K → t.gone < piece_length t.piece
    → Exact (sends t.piece (t.gone + 1) t.left t.ends) H W (bits ++ (piece_bit t.piece t.gone ∷ [])) S K
exact_on t H W bits S K x h =
    record {
      spot = x.spot;
      proper = x.proper;
      fits = x.fits;
      short = omega arith;
      is =
          rw (x.is, add-one)
          (append_assoc (line_at x.spot) (tabulate (piece_bit t.piece) t.gone) _ ∙ unfold tabulate in refl);
      account = x.account;
      low = x.low;
    }

-- Between two pieces the line is at the place after the piece.
exact_between : (t : Sender) (H W : List ℕ) (bits : List Bool) (S K : List ℕ) (x : Exact t H W bits S K)
    → piece_length t.piece ≤ t.gone → bits ≡ line_at (onward t.piece x.spot)
exact_between t H W bits S K x h =
    let e : t.gone ≡ piece_length t.piece = omega (arith, x.short) in
    x.is ∙ ap (λ n. line_at x.spot ++ tabulate (piece_bit t.piece) n) e ∙ ap (λ l. line_at x.spot ++ l) (piece_bits_lem t.piece)
    ∙ line_onward t.piece x.spot x.fits

-- A piece begun between two pieces.
exact_load : (t : Sender) (H W : List ℕ) (bits : List Bool) (S K : List ℕ) (x : Exact t H W bits S K)
    → piece_length t.piece ≤ t.gone → (u : Piece) (left ends : ℕ) (J X : List ℕ) → 1 ≤ piece_length u
    → Fits u (to_pos (onward t.piece x.spot)) × Account (after u (to_pos (onward t.piece x.spot))) left ends J X S K
    → Exact (sends u 1 left ends) J X (bits ++ (piece_bit u 0 ∷ [])) S K
exact_load t H W bits S K x b u left ends J X one f =
    record {
      spot = onward t.piece x.spot;
      proper = proper_onward t.piece x.spot x.fits x.proper;
      fits = f.0;
      short = one;
      is = rw (exact_between t H W bits S K x b) (unfold tabulate in refl);
      account = rw (pos_onward u (onward t.piece x.spot) f.0) f.1;
      low = x.low;
    }

-- A word taken from TX.
pub exact_word : (t : Sender) (w : ℕ) (H W : List ℕ) (bits : List Bool) (S K : List ℕ) → Exact t (w ∷ H) W bits S K
    → piece_length t.piece ≤ t.gone → 0 < t.left
    → Exact (sends (WordPiece w) 1 (t.left - 1) t.ends) H W (bits ++ (piece_bit (WordPiece w) 0 ∷ [])) S K
exact_word t w H W bits S K x b h =
    let e : t.left ≡ suc (t.left - 1) = omega arith in
    exact_load t (w ∷ H) W bits S K x b (WordPiece w) (t.left - 1) t.ends H W (omega arith)
    (next_word _ (t.left - 1) t.ends w H W S K x.low (rw e at x.account))

-- An END: of the command, an extra one, or of a place that has no words.
pub exact_end : (t : Sender) (ends : ℕ) (H W : List ℕ) (bits : List Bool) (S K : List ℕ) → Exact t H W bits S K
    → piece_length t.piece ≤ t.gone → t.left ≡ 0 → Exact (sends EndPiece 1 0 ends) H W (bits ++ (true ∷ [])) S K
unfolding piece_bit
exact_end t ends H W bits S K x b l =
    exact_load t H W bits S K x b EndPiece 0 ends H W (omega arith)
    (next_end _ t.ends ends H W S K (rw l at x.account))

-- A start bit.
exact_start : (t : Sender) (k ends : ℕ) (H W : List ℕ) (bits : List Bool) (S K : List ℕ) → Exact t H (suc k ∷ W) bits S K
    → piece_length t.piece ≤ t.gone → t.left ≡ 0 → t.ends ≡ 0
    → Exact (sends StartBit 1 (suc k) (suc ends)) H W (bits ++ (false ∷ [])) S K
unfolding piece_bit
exact_start t k ends H W bits S K x b l e =
    exact_load t H (suc k ∷ W) bits S K x b StartBit (suc k) (suc ends) H W (omega arith)
    (next_start _ k ends H W S K (rw (l, e) at x.account))

-- A place begun, with words and without.
pub exact_begin : (t : Sender) (k ends : ℕ) (H W : List ℕ) (bits : List Bool) (S K : List ℕ) → 0 < k → Exact t H (counted k W) bits S K
    → piece_length t.piece ≤ t.gone → t.left ≡ 0 → t.ends ≡ 0
    → Exact (sends StartBit 1 k (ends + 1)) H W (bits ++ (false ∷ [])) S K
unfolding counted
exact_begin t zero ends H W bits S K h x b l e = absurd (omega arith)
exact_begin t (suc k) ends H W bits S K h x b l e = rw add-one (exact_start t k ends H W bits S K x b l e)

pub exact_ends : (t : Sender) (k ends : ℕ) (H W : List ℕ) (bits : List Bool) (S K : List ℕ) → k ≤ 0 → Exact t H (counted k W) bits S K
    → piece_length t.piece ≤ t.gone → t.left ≡ 0 → Exact (sends EndPiece 1 0 ends) H W (bits ++ (true ∷ [])) S K
unfolding counted
exact_ends t zero ends H W bits S K h x b l = exact_end t ends H W bits S K x b l
exact_ends t (suc k) ends H W bits S K h x b l = absurd (omega arith)

-- An idle tick: one more 1 that belongs to no command.
commands_idle : (segments : List Segment) → commands_of (segments ++ (idle ∷ [])) ≡ commands_of segments
unfolding commands_of
commands_idle segments = rw (commands_append, append-nil)

encode_idle : (segments : List Segment) → encode (segments ++ (idle ∷ [])) ≡ encode segments ++ (true ∷ [])
unfolding encode
encode_idle segments = rw encode_append

rests : (q : Spot) (bits : List Bool) (H W S K : List ℕ) → bits ≡ line_at q → Proper q → Account (to_pos q) 0 0 H W S K → Words S
    → Exact (sends Pause 0 0 0) H W (bits ++ (true ∷ [])) S K
rests (away segments) bits H W S K b p a k =
    record {
      spot = away (segments ++ (idle ∷ []));
      proper = sixteen_append segments (idle ∷ []) p tt;
      fits = tt;
      short = omega arith;
      is = unfold line_at tabulate in rw (b, encode_idle, append-nil);
      account = unfold onward to_pos in rw commands_idle a;
      low = k;
    }
rests (inside segments words) bits H W S K b p a k = absurd (unfold Account to_pos in omega (arith, a.0))

pub exact_stay : (t : Sender) (H W : List ℕ) (bits : List Bool) (S K : List ℕ) → Exact t H W bits S K
    → piece_length t.piece ≤ t.gone → t.left ≡ 0 → t.ends ≡ 0 → Exact (sends Pause 0 0 0) H W (bits ++ (true ∷ [])) S K
exact_stay t H W bits S K x b l e =
    rests (onward t.piece x.spot) bits H W S K (exact_between t H W bits S K x b)
    (proper_onward t.piece x.spot x.fits x.proper) (rw (l, e) at x.account) x.low

-- The host's side: a word stored, words taken back, a place queued.
pub exact_push : (t : Sender) (w : ℕ) (H W : List ℕ) (bits : List Bool) (S K : List ℕ) → Exact t H W bits S K → w < 65536
    → Exact t (H ++ (w ∷ [])) W bits (S ++ (w ∷ [])) K
exact_push t w H W bits S K x h =
    record {
      spot = x.spot;
      proper = x.proper;
      fits = x.fits;
      short = x.short;
      is = x.is;
      account = account_push _ _ _ w H W S K x.account;
      low = words_snoc S w x.low h;
    }

pub exact_back : (t : Sender) (n : ℕ) (H W : List ℕ) (bits : List Bool) (S K : List ℕ) → Exact t H W bits S K → n ≤ length H
    → Exact t (take (length H - n) H) W bits (take (length S - n) S) K
exact_back t n H W bits S K x h =
    record {
      spot = x.spot;
      proper = x.proper;
      fits = x.fits;
      short = x.short;
      is = x.is;
      account = account_back _ _ _ H W S K n h x.account;
      low = words_take (length S - n) S x.low;
    }

pub exact_queue : (t : Sender) (H W k : List ℕ) (bits : List Bool) (S K : List ℕ) → Exact t H W bits S K
    → Exact t H (W ++ k) bits S (K ++ k)
exact_queue t H W k bits S K x =
    record {
      spot = x.spot;
      proper = x.proper;
      fits = x.fits;
      short = x.short;
      is = x.is;
      account = account_queue _ _ _ H W S K k x.account;
      low = x.low;
    }

-- A transmit clear with nothing to send: the sender owes an END.
pub exact_owing : (t : Sender) (ends : ℕ) (H W : List ℕ) (bits : List Bool) (S K : List ℕ) → Exact t H W bits S K
    → piece_length t.piece ≤ t.gone → t.left ≡ 0 → t.ends ≡ 0 → Exact (sends Pause 0 0 ends) H W bits S K
exact_owing t ends H W bits S K x b l e =
    record {
      spot = onward t.piece x.spot;
      proper = proper_onward t.piece x.spot x.fits x.proper;
      fits = tt;
      short = omega arith;
      is = unfold tabulate in (exact_between t H W bits S K x b ∙ sym (append-nil (line_at (onward t.piece x.spot))));
      account = pause (onward t.piece x.spot) (account_owes _ ends H W S K (rw (l, e) at x.account));
      low = x.low;
    }
  where
    pause : (q : Spot) → Account (to_pos q) 0 ends H W S K → Account (to_pos (onward Pause q)) 0 ends H W S K
    pause q a = unfold onward in a

-- A power-up with nothing to send: what was accepted is on the line, and what TX holds was not accepted.
power_spot : (q : Spot) (H : List ℕ) (bits : List Bool) (S K : List ℕ) → bits ≡ line_at q → Proper q → Account (to_pos q) 0 0 H [] S K → Words S
    → Exact (sends Pause 0 0 0) [] [] bits (concat (assign K S)) (lengths (assign K S))
power_spot (away segments) H bits S K b p a k =
    let c : Account (out (commands_of segments)) 0 0 H [] S K = unfold to_pos in a in
    rw (account_listed (commands_of segments) H S K c)
    (record {
      spot = away segments;
      proper = p;
      fits = tt;
      short = omega arith;
      is = unfold tabulate in (b ∙ sym (append-nil (line_at (away segments))));
      account = unfold onward to_pos in account_fresh (commands_of segments);
      low = account_front (commands_of segments) H S K c k;
    })
power_spot (inside segments words) H bits S K b p a k = absurd (unfold to_pos Account in omega (arith, a.0))

pub exact_again : (t : Sender) (H : List ℕ) (bits : List Bool) (S K : List ℕ) → Exact t H [] bits S K → piece_length t.piece ≤ t.gone
    → t.left ≡ 0 → t.ends ≡ 0 → Exact (sends Pause 0 0 0) [] [] bits (concat (assign K S)) (lengths (assign K S))
exact_again t H bits S K x b l e =
    power_spot (onward t.piece x.spot) H bits S K (exact_between t H [] bits S K x b)
    (proper_onward t.piece x.spot x.fits x.proper) (rw (l, e) at x.account) x.low

-- With all sent, TX holds the words that no place counts.
pub exact_all : (t : Sender) (H : List ℕ) (bits : List Bool) (S K : List ℕ) → Exact t H [] bits S K → t.left ≡ 0 → t.ends ≡ 0
    → length S ≡ sum K + length H
exact_all t H bits S K x l e = all_there _ H S K (rw (l, e) at x.account)

-- What the line reads as.
pub exact_sent : (t : Sender) (H W : List ℕ) (bits : List Bool) (S K : List ℕ) → Exact t H W bits S K → Sent (read_line bits) (assign K S)
exact_sent t H W bits S K x =
    let p = to_pos x.spot in
    let q : Account (after t.piece p) t.left t.ends H W S K = rw (pos_onward t.piece x.spot x.fits) at x.account in
    let a : Agrees (assign K S) (after t.piece p) = account_agrees _ _ _ _ _ S K q in
    let r : read_line bits ≡ up_to (at p) (piece_bit t.piece) t.gone
    = ap read_line x.is ∙ from_out _ ∙ read_append (at (out [])) (line_at x.spot) _
    ∙ ap (λ i. read_bits i (tabulate (piece_bit t.piece) t.gone))
    (sym (from_out (line_at x.spot)) ∙ read_spot x.spot x.proper) ∙ read_tabulate _ _ _ in
    rw r
    (⊎_elim (agrees_sent _ _ _ (agrees_before _ t.piece p x.fits a)) (agrees_sent _ _ _ a)
    (part t.piece p x.fits t.gone x.short))

-- What the line is.
first_bits_lem : (u : Piece) (n : ℕ) → first_bits u n ≡ tabulate (piece_bit u) n
unfolding first_bits tabulate
first_bits_lem u zero = refl
first_bits_lem u (suc n) = rw (first_bits_lem u n)

follows : (s : Spot) (A : List (List ℕ)) → Agrees A (to_pos s) → Follows s A
follows s A a = by s (agrees_sent A (at (to_pos s)) (to_pos s) a (shows_at (to_pos s)))
  where
    by : (s : Spot) → Sent (at (to_pos s)) A → Follows s A
    by (away segments) h = unfold to_pos at commands_at words_at in (record { first = h.first; next = h.next })
    by (inside segments words) h = unfold to_pos at commands_at words_at in (record { first = h.first; next = h.next })

pub exact_exactly : (t : Sender) (H W : List ℕ) (bits : List Bool) (S K : List ℕ) → Exact t H W bits S K → Exactly bits t (assign K S)
exact_exactly t H W bits S K x =
    let a : Agrees (assign K S) (to_pos (onward t.piece x.spot)) = account_agrees _ _ _ _ _ S K x.account in
    record {
      spot = x.spot;
      proper = x.proper;
      bits_are = rw (first_bits_lem t.piece t.gone) x.is;
      gone =
          follows x.spot _ (agrees_before _ t.piece (to_pos x.spot) x.fits (rw (pos_onward t.piece x.spot x.fits) at a));
      going = follows (onward t.piece x.spot) _ a;
    }

-- With nothing left to send the line is 1s and whole commands, and these are all.
ended : (q : Spot) (bits : List Bool) (H S K : List ℕ) → bits ≡ line_at q → Proper q → Account (to_pos q) 0 0 H [] S K → Whole bits (assign K S)
unfolding to_pos Account
ended (away segments) bits H S K b p a =
    record {
      segments = segments;
      sixteen = p;
      bits_are = b ∙ unfold line_at in refl;
      commands_are = sym (account_listed (commands_of segments) H S K a);
    }
ended (inside segments words) bits H S K b p a = absurd (omega (arith, a.0))

pub exact_whole : (t : Sender) (H : List ℕ) (bits : List Bool) (S K : List ℕ) → Exact t H [] bits S K
    → piece_length t.piece ≤ t.gone → t.left ≡ 0 → t.ends ≡ 0 → Whole bits (assign K S)
exact_whole t H bits S K x b l e =
    ended (onward t.piece x.spot) bits H S K (exact_between t H [] bits S K x b)
    (proper_onward t.piece x.spot x.fits x.proper) (rw (l, e) at x.account)

pub whole_read : (bits : List Bool) (A : List (List ℕ)) → Whole bits A → (read_line bits).finished ≡ A
whole_read bits A v =
    let r : read_line bits ≡ record { finished = commands_of v.segments; words = []; ear = Quiet }
    = ap read_line v.bits_are ∙ round_trip v.segments v.sixteen in
    ap (λ (y : Reading). y.finished) r ∙ v.commands_are

-- Power-up: nothing was stored, queued or sent.
pub exact_power : Exact (sends Pause 0 0 0) [] [] [] [] []
exact_power =
    record {
      spot = away [];
      proper = tt;
      fits = tt;
      short = omega arith;
      is = unfold line_at encode tabulate in refl;
      account = unfold Account to_pos onward commands_of concat lengths in (refl, refl, refl);
      low = tt;
    }
