-- Numbers, and a command on both sides of the edge: FWD_WR of two words, TXFFLVL 0, so that it begins with one word in TX. That is enough for a
-- host of a word every 18 ticks, and one too few for every 19. Computed from the definitions; the theorem is applied at the end, so that what it asks
-- can be met.
use mathlib.Core.Path.{◌≡◌, refl, subst}
use mathlib.Core.Bool.{true, false}
use mathlib.Core.List.{List, [], ◌∷◌, ◌++◌}
use Prim.Native.Nat.{ℕ, ◌+◌, ◌/◌, ◌≤◌}
use native.Mathlib.Omega.{arith}
use Rattle.command.specs.Layouts.{layouts}
use Rattle.state.specs.Queue.{new_place}
use Rattle.state.specs.declared.Note.TheVariants.{Done, TxEmpty}
use Rattle.kept.proofs.Fits.{layouts_fit}
use Rattle.events.specs.declared.Event.{Event}
use Rattle.events.specs.declared.Event.TheVariants.{Word, Tick}
use Rattle.bridge.specs.Runs.{Config, end_of, ticks_in}
use Rattle.order.proofs.Examples.{from, ticks, frame, opening, meets}
use Rattle.ahead.specs.Ahead.{taken_at, ahead, Begun, tick_after, puts, stored_in, Uncut, Fed, AtLeastEvery, note_after}
use Rattle.ahead.specs.Level.{Alone, start_of}
use Rattle.ahead.proofs.Tests.{uncut, on_time, paces, is_uncut, is_paced}
use Rattle.ahead.proofs.Ahead.{each_none, how_many_ahead}

pub first_taken : taken_at 0 ≡ 1
unfolding taken_at
first_taken = refl

pub last_of_40_taken : taken_at 39 ≡ 664
unfolding taken_at
last_of_40_taken = refl

pub ahead_40_32 : ahead 40 32 ≡ 20
unfolding ahead taken_at
ahead_40_32 = refl

-- the power-up level's 64 words are enough for 127 at a word every 34 ticks, and for no more
pub ahead_127_34 : ahead 127 34 ≡ 64
unfolding ahead taken_at
ahead_127_34 = refl

pub ahead_128_34 : ahead 128 34 ≡ 65
unfolding ahead taken_at
ahead_128_34 = refl

pub ahead_2_18 : ahead 2 18 ≡ 1
unfolding ahead taken_at
ahead_2_18 = refl

pub ahead_2_19 : ahead 2 19 ≡ 2
unfolding ahead taken_at
ahead_2_19 = refl

-- from power-up to the command word
abbrev asked : Config
asked = end_of layouts from (opening ++ (frame (0xB003 ∷ 0x0000 ∷ []) ++ (Word 0x3001 ∷ [])))

-- what the theorem about the level asks can be met: the first data word queues it, and it begins at the next tick
pub alone : Alone layouts asked (Word 0x1111) (new_place 2 0 false) [] true
unfolding meets
alone = record {
  whole = record { stores = record { tx_is = refl; rx_is = refl }; rules = refl; eight = refl };
  none_left = refl;
  none_waits = refl;
  queues = refl;
  with_words = omega arith;
  uncut = each_none _;
  waits = each_none _;
  then_starts = refl;
}

-- at the start bit's tick
abbrev started : Config
started = start_of layouts asked (Word 0x1111) [] true

pub begun : Begun started 2 1
unfolding meets
begun = record {
  whole = record { stores = record { tx_is = refl; rx_is = refl }; rules = refl; eight = refl };
  start_bit = refl;
  words = refl;
  tx_holds = refl;
}

-- 18 ticks, the start bit's among them, then the second word
pub in_time : note_after layouts started (ticks 17 ++ (Word 0x2222 ∷ [])) (Tick true) ≡ Done
unfolding meets
in_time = refl

-- 19 ticks before it: the last of them is too late
pub too_late : note_after layouts started (ticks 17) (Tick true) ≡ TxEmpty
unfolding meets
too_late = refl

-- what the theorem asks of the slowest host can be met, at the edge: 18 ticks, the start bit's among them, the second word, the tick that takes it
abbrev slowest : List Event
slowest = ticks 17 ++ (Word 0x2222 ∷ (Tick true ∷ []))

pub slowest_uncut : Uncut layouts started slowest
unfolding uncut meets
slowest_uncut = is_uncut layouts started slowest refl

slowest_test : paces 18 layouts started 1 0 0 slowest ≡ true
unfolding paces on_time puts ticks_in meets
slowest_test = refl

pub slowest_paces : AtLeastEvery 18 layouts started 1 slowest
slowest_paces before sin after q k =
    let n : 0 + tick_after before ≡ tick_after before = omega arith in
    let r : (0 + tick_after before) / 18 ≤ 0 + stored_in layouts started before
    = is_paced 18 layouts started 1 0 0 slowest slowest_test before sin after q (omega (arith, k)) in
    subst (λ (x : ℕ). x / 18 ≤ stored_in layouts started before) n (omega (arith, r))

pub slowest_fed : Fed layouts started slowest
unfolding ahead taken_at ticks_in meets
slowest_fed =
    (how_many_ahead layouts layouts_fit started 2 1 slowest begun slowest_uncut).enough 18 (omega arith) (omega arith) (omega arith) slowest_paces
    (omega arith)
