-- Laws of the definitions, in the form in which the functions' proofs ask them. Assumes nothing.
use Rattle.std.specs.Prelude.{Result, Ok}
use mathlib.Core.Path.{◌≡◌, refl, ap, ap₂, sym, ◌∙◌, subst}
use mathlib.Core.Bool.{Bool, true, false}
use mathlib.Core.List.{List, [], ◌∷◌, ◌++◌}
use Prim.Native.Nat.{ℕ, suc, ◌+◌, ◌<◌, ◌≤◌}
use native.Mathlib.Omega.{arith}
use native.Mathlib.Numerals.{add-one}
use lib.ListN.{length, get_or, take, drop, set, replicate, drop_of_length-le, length-append}
use lib.Seq.{drop-cons, take-append_seam, sets, sets-eq}
use borrow.Author.Tests.{le-leb}
use Rattle.base.specs.Pick.{pick_true, pick_false}
use Rattle.layout.specs.declared.Layout.{Layout}
use Rattle.crc16.specs.Crc.{crc_from}
use Rattle.command.specs.Layouts.{layouts}
use Rattle.registers.specs.declared.Regs.{Regs}
use Rattle.state.specs.declared.Bridge.{Bridge}
use Rattle.events.specs.Turn.{out}
use Rattle.events.specs.declared.Answer.{Answer}
use Rattle.events.specs.declared.Event.{Event}
use Rattle.events.specs.declared.Event.TheVariants.{Word, Release}
use Rattle.bridge.specs.Step.{step}
use Rattle.bridge.specs.Runs.{Config, out_of, left_by, next, end_of}
use Rattle.frames.specs.Frames.{Out as FrameOut, beside, frame_of, over, out as wrote, written_of}
use Rattle.frames.specs.Orders.{within, command_word}
use Rattle.frames.specs.declared.Order.TheVariants.{FwdWrCrc}
use Rattle.frames.specs.declared.WriteError.{WriteError}
use Rattle.verdict.specs.Verdicts.{is_taken, verdict_by, Verdict, Taken}
use Rattle.verdict.proofs.Taking.{Finds, taken_facts}
use Rattle.callup.specs.CallUp.{vsync, given, call_up, call_up_to}
use Rattle.frames_found.specs.Found.{frame_in}
use Rattle.callup.proofs.CallUp.{end_append}
use Rattle.board.specs.Board.{called, refusal, poured, slot_of, empty_slot, empty_board, showing, taken_of, call_up_of}
use Rattle.board.specs.Moments.{config}
use Rattle.board.specs.declared.Board.{Board}
use Rattle.board.specs.declared.Called.{Called}
use Rattle.board.specs.declared.Slot.{Slot}

-- a slot with no words shows thirty zeros
pub to_empty : record { slots = replicate 40 (record { reading = 0; count = 0; words = replicate 30 0 }) } ≡ empty_board
unfolding empty_board empty_slot slot_of poured
to_empty = refl

-- an answered event is one step of the run
stepped : (b : Bridge) (tx rx : List ℕ) (e : Event) (a : Answer) (t r : List ℕ) → out a t r ≡ step layouts b tx rx e
    → config a.state t r ≡ next layouts (config b tx rx) e
unfolding next out_of
stepped b tx rx e a t r h = ap left_by h

-- what is left of a frame ends where the whole does
module _ (c : Config) (frame : List ℕ) (b : Bridge) (tx rx : List ℕ) (i : ℕ)
    (v : end_of layouts (config b tx rx) (given (drop i frame)) ≡ end_of layouts c (given frame)) (a : Answer) (t r : List ℕ) where
  pub give_again : i < length frame → out a t r ≡ step layouts b tx rx (Word (get_or frame i 0))
      → end_of layouts (config a.state t r) (given (drop (i + 1) frame)) ≡ end_of layouts c (given frame)
  unfolding given end_of
  give_again h e =
      subst (λ (d : Config). end_of layouts d (given (drop (i + 1) frame)) ≡ end_of layouts c (given frame))
      (sym (stepped b tx rx (Word (get_or frame i 0)) a t r e)) (rw add-one (rw (drop-cons frame i 0 h) at v))

  pub give_ends : length frame ≤ i → out a t r ≡ step layouts b tx rx Release → config a.state t r ≡ end_of layouts c (given frame)
  unfolding given end_of
  give_ends h e = stepped b tx rx Release a t r e ∙ (rw (drop_of_length-le frame h) at v)

-- words poured are the first of the cells
pub poured_sets : (cells : List ℕ) (i : ℕ) (ws : List ℕ) → poured cells i ws ≡ sets cells i ws
unfolding poured
poured_sets cells i [] = refl
poured_sets cells i (w ∷ ws) = ap (λ (n : ℕ). poured (set cells i w) n ws) (add-one i) ∙ poured_sets (set cells i w) (suc i) ws

pub to_slot : (reading : ℕ) (ws xs : List ℕ) → length ws ≤ 30 → xs ≡ ws
    → record { reading = reading; count = length ws; words = xs ++ drop (length ws) (replicate 30 0) } ≡ slot_of reading ws
unfolding slot_of
to_slot reading ws xs h e =
    let s : poured (replicate 30 0) 0 ws ≡ ws ++ drop (0 + length ws) (replicate 30 0) =
    poured_sets (replicate 30 0) 0 ws ∙ sets-eq ws (replicate 30 0) 0 (omega arith) in
    let z : 0 + length ws ≡ length ws = omega arith in
    rw e (ap (λ (cells : List ℕ). record { reading = reading; count = length ws; words = cells }) (sym (rw z at s)))

-- it takes 1 to 30 words
written : (k : Layout) (s : ℕ) (ws : List ℕ) → 1 ≤ length ws → length ws ≤ 30
    → wrote (Ok (length ws + beside)) (over (frame_of k s FwdWrCrc ws) (replicate 32 0)) ≡ written_of k s FwdWrCrc ws (replicate 32 0)
unfolding written_of
written k s ws a b =
    let w : within FwdWrCrc (length ws) ≡ true = rw (le-leb 1 (length ws) a, le-leb (length ws) 512 (omega arith)) refl in
    let l : length ws + beside ≤ length {A = ℕ} (replicate 32 0) = omega arith in
    pick_true _ _ _ _ w (pick_true _ _ _ _ (le-leb _ _ l) refl)

-- .. and leaves their frame at the buffer's front
frame_front : (k : Layout) (s : ℕ) (ws left : List ℕ) (answer : Result ℕ WriteError) → 1 ≤ length ws → length ws ≤ 30
    → wrote answer left ≡ written_of k s FwdWrCrc ws (replicate 32 0) → take (length ws + 2) left ≡ frame_of k s FwdWrCrc ws
frame_front k s ws left answer a b e =
    let frame : List ℕ = frame_of k s FwdWrCrc ws in
    let head : List ℕ = command_word k FwdWrCrc (length ws) ∷ ws in
    let is : left ≡ over frame (replicate 32 0) = ap (λ (o : FrameOut). o.buffer) (e ∙ sym (written k s ws a b)) in
    let n : length ws + 2 ≡ length frame = omega (arith, length-append head (crc_from s head ∷ [])) in
    ap₂ (λ (m : ℕ) (x : List ℕ). take m x) n is ∙ take-append_seam frame _

pub to_forward : (b : Bridge) (tx rx : List ℕ) (k : Layout) (s : ℕ) (ws left : List ℕ) (answer : Result ℕ WriteError) (n : ℕ) (g : Bridge) (t r : List ℕ)
    → 1 ≤ length ws → length ws ≤ 30 → wrote answer left ≡ written_of k s FwdWrCrc ws (replicate 32 0) → n ≡ length ws + 2
    → config g t r ≡ end_of layouts (config b tx rx) (given (take n left)) → config g t r ≡ end_of layouts (config b tx rx) (given (frame_of k s FwdWrCrc ws))
to_forward b tx rx k s ws left answer n g t r p q e i h =
    h ∙ ap (λ (x : List ℕ). end_of layouts (config b tx rx) (given x)) (ap (λ (m : ℕ). take m left) i ∙ frame_front k s ws left answer p q e)

-- both frames, one after the other
pub to_both : (b : Bridge) (tx rx ws : List ℕ) (g : Bridge) (t r one : List ℕ) (z : Bridge) (u v : List ℕ)
    → config g t r ≡ end_of layouts (config b tx rx) (given (frame_in b.control.regs FwdWrCrc ws)) → one ≡ vsync ∷ []
    → config z u v ≡ end_of layouts (config g t r) (given (frame_in b.control.regs FwdWrCrc one))
    → config z u v ≡ end_of layouts (config b tx rx) (call_up_to (config b tx rx) ws)
unfolding call_up
to_both b tx rx ws g t r one z u v h o k =
    let f : Regs = b.control.regs in
    k
    ∙ ap₂ (λ (c : Config) (x : List ℕ). end_of layouts c (given (frame_in f FwdWrCrc x))) h o
    ∙ sym (end_append layouts (config b tx rx) (given (frame_in f FwdWrCrc ws)) (given (frame_in f FwdWrCrc (vsync ∷ []))))

pub to_taken : (board : Board) (c : Config) (slot reading : ℕ) (ws : List ℕ) (g : Bridge) (t r : List ℕ) (s : Slot)
    → config g t r ≡ end_of layouts c (call_up_to c ws) → s ≡ slot_of reading ws
    → called (record { board = record { slots = set board.slots slot s }; bridge = g; verdict = Taken }) t r ≡ taken_of board c slot reading ws
unfolding taken_of showing
to_taken board c slot reading ws g t r s h e =
    ap₂
    (λ (d : Config) (x : Slot). called (record { board = record { slots = set board.slots slot x }; bridge = d.bridge; verdict = Taken }) d.tx d.rx)
    h e

-- by what the verdict's functions answered
module _ (tx rx : ℕ) (b : Bridge) (slot n : ℕ) (v : Verdict) (t : Bool) (h : v ≡ verdict_by tx rx b slot n) (k : t ≡ is_taken v) where
  told_taken : is_taken (verdict_by tx rx b slot n) ≡ t
  told_taken = ap is_taken (sym h) ∙ sym k

  finds : t ≡ true → Finds tx rx b slot n
  finds e = taken_facts tx rx b slot n (told_taken ∙ e)

  pub taken_slot : t ≡ true → slot ≤ 39
  taken_slot e = (finds e).in_board

  pub taken_some : t ≡ true → 1 ≤ n
  taken_some e = (finds e).some

  pub taken_most : t ≡ true → n ≤ 30
  taken_most e = (finds e).most

module _ (board : Board) (b : Bridge) (tx rx : List ℕ) (slot reading : ℕ) (ws : List ℕ) (v : Verdict) (t : Bool)
    (h : v ≡ verdict_by (length tx) (length rx) b slot (length ws)) (k : t ≡ is_taken v) (r : Called) (x y : List ℕ) where
  pub to_called : t ≡ true → called r x y ≡ taken_of board (config b tx rx) slot reading ws
      → called r x y ≡ call_up_of board (config b tx rx) slot reading ws
  unfolding call_up_of
  to_called e f = pick_true _ _ _ _ (told_taken _ _ b slot _ v t h k ∙ e) f

  pub to_refused : t ≡ false → called (refusal board b v) tx rx ≡ call_up_of board (config b tx rx) slot reading ws
  unfolding call_up_of
  to_refused e = pick_false _ _ _ _ (told_taken _ _ b slot _ v t h k ∙ e) (ap (λ (u : Verdict). called (refusal board b u) tx rx) h)
