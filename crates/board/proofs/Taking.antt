-- A call-up is taken just where 02 says, and a slot shows its last (02 item 13). Assumes nothing.
use mathlib.Core.Path.{◌≡◌, refl, ap, ◌∙◌}
use mathlib.Core.Bool.{Bool, true, not, ◌&&◌}
use mathlib.Core.List.{List}
use Prim.Native.Nat.{ℕ, ◌+◌, ◌≤◌}
use native.Mathlib.Omega.{arith}
use lib.Dec.{leb}
use lib.ListN.{length, get_or, replicate, take}
use lib.Seq.{sets-eq, take-append_seam, get_or-set_same, get_or-set_other}
use borrow.Author.Tests.{le-leb, leb-true, not-true}
use Rattle.base.specs.Pick.{and_l, and_r, and_both}
use Rattle.line.specs.Format.{Words}
use Rattle.registers.specs.Registers.{is_normal, blocking}
use Rattle.registers.specs.declared.Mode.{Mode}
use Rattle.registers.specs.declared.Mode.TheVariants.{Normal, Init, Failsafe}
use Rattle.state.specs.Queue.{places, in_use}
use Rattle.state.specs.Rings.{tx_size}
use Rattle.state.specs.declared.Phase.{Phase}
use Rattle.state.specs.declared.Phase.TheVariants.{Idle, Collecting, Answering, Discarding}
use Rattle.next.specs.Next.{may_start}
use Rattle.kept.proofs.Sound.{facts_sound}
use Rattle.bridge.specs.Runs.{Config}
use Rattle.bridge.proofs.Reached.{Obeys}
use Rattle.verdict.specs.Verdicts.{call_up_most, slot_count, last_slot, is_taken, is_idle, is_ready, has_room, Taken}
use Rattle.verdict.proofs.Taking.{Finds, taken_facts, facts_taken}
use Rattle.callup.specs.Taken.{Open, Takes}
use Rattle.board.proofs.Laws.{poured_sets}
use Rattle.board.specs.Board.{slot_of, empty_slot, showing, verdict_of}
use Rattle.board.specs.declared.Board.{Board}

-- refusal 34 as a test and as facts
normal_only : (m : Mode) → is_normal m ≡ true → m ≡ Normal
normal_only Normal h = refl
normal_only Init h = cc
normal_only Failsafe h = cc

idle_only : (p : Phase) → is_idle p ≡ true → p ≡ Idle
unfolding is_idle
idle_only Idle h = refl
idle_only (Collecting command got crc mine released blocked) h = cc
idle_only (Answering reply crc) h = cc
idle_only Discarding h = cc

ready_open : (c : Config) → is_ready c.bridge ≡ true → Open c
unfolding is_ready
ready_open c h =
    let normal : Bool = is_normal c.bridge.control.mode in
    let clear : Bool = not c.bridge.control.flags.por in
    let m : may_start c.bridge.control ≡ true = and_l _ (is_idle c.bridge.frame.phase) h in
    let n : (normal && clear) ≡ true = and_l _ (not (blocking c.bridge.control.flags)) m in
    record {
      normal = normal_only _ (and_l normal clear n);
      clear = not-true _ (and_r normal clear n);
      unblocked = not-true _ (and_r (normal && clear) _ m);
      idle_frame = idle_only _ (and_r (may_start c.bridge.control) _ h);
    }

open_ready : (c : Config) → Open c → is_ready c.bridge ≡ true
unfolding is_ready is_idle
open_ready c o = rw (o.unblocked, o.clear, o.normal, o.idle_frame) refl

-- "A call-up is taken only when .."
pub taken_takes : (c : Config) (slot : ℕ) (ws : List ℕ) → Words ws → is_taken (verdict_of c slot (length ws)) ≡ true → Takes c ws
unfolding has_room
taken_takes c slot ws small e =
    let f : Finds (length c.tx) (length c.rx) c.bridge slot (length ws) = taken_facts _ _ c.bridge slot (length ws) e in
    let two : Bool = leb (in_use c.bridge.sending.queue + 2) places in
    let fits : Bool = leb (c.bridge.sending.tx.count + length ws + 1) tx_size in
    record {
      ready = ready_open c f.ready;
      some = f.some;
      most = f.most;
      sixteen = small;
      two_places = leb-true _ _ (and_l two fits f.room);
      room = leb-true _ _ (and_r two fits f.room);
    }

-- "any call-up that finds these, with no refusal below before it, is taken"
pub takes_taken : (c : Config) (slot : ℕ) (ws : List ℕ) → Obeys c → slot ≤ last_slot → Takes c ws → verdict_of c slot (length ws) ≡ Taken
unfolding has_room
takes_taken c slot ws o h t =
    facts_taken _ _ c.bridge slot (length ws)
    (record {
      tx_is = o.stores.tx_is;
      rx_is = o.stores.rx_is;
      sound_record = facts_sound c.bridge o.rules;
      in_board = h;
      some = t.some;
      most = t.most;
      ready = open_ready c t.ready;
      room = and_both _ _ (le-leb _ _ t.two_places) (le-leb _ _ t.room);
    })

-- "a slot shows its last": the words of a call-up are the first of its slot's cells
pub slot_words : (reading : ℕ) (ws : List ℕ) → length ws ≤ call_up_most → take (slot_of reading ws).count (slot_of reading ws).words ≡ ws
unfolding slot_of
slot_words reading ws h =
    ap (take (length ws)) (poured_sets (replicate call_up_most 0) 0 ws ∙ sets-eq ws (replicate call_up_most 0) 0 (omega arith)) ∙ take-append_seam ws _

module _ (board : Board) (slot reading : ℕ) (ws : List ℕ) where
  pub slot_last : length board.slots ≡ slot_count → slot ≤ last_slot → get_or (showing board slot reading ws).slots slot empty_slot ≡ slot_of reading ws
  unfolding showing
  slot_last l h = get_or-set_same board.slots slot (slot_of reading ws) empty_slot (omega (arith, l))

  pub slot_other : (k : ℕ) → (k ≡ slot → ⊥) → get_or (showing board slot reading ws).slots k empty_slot ≡ get_or board.slots k empty_slot
  unfolding showing
  slot_other k h = get_or-set_other board.slots slot k (slot_of reading ws) empty_slot h
