-- Laws of the definitions, in the form in which the functions' proofs ask them. Assumes nothing.
use mathlib.Core.Path.{◌≡◌, refl, ◌∙◌}
use mathlib.Core.Bool.{Bool, true, false, not, ◌&&◌}
use Prim.Native.Nat.{ℕ, ◌-◌, ◌≤◌}
use native.Mathlib.Omega.{arith}
use Rattle.base.specs.Pick.{pick_true, pick_false}
use Rattle.command.specs.declared.Command.{Command}
use Rattle.state.specs.declared.Reply.{Reply}
use Rattle.state.specs.declared.Phase.{Phase}
use Rattle.state.specs.declared.Phase.TheVariants.{Collecting}
use Rattle.state.specs.declared.Progress.{Progress}
use Rattle.state.specs.Frame.{is_forward, data_words, owed_by, mine_of, to_come, collect_sound, reply_sound, phase_sound}
use Rattle.frame_rules.specs.Frames.{is_unmarked}

-- an arm knows the constructor
pub to_collect : (v w : Command) (at : Progress) (x : Bool) → v ≡ w → x ≡ collect_sound w at → x ≡ collect_sound v at
to_collect v w at x h e = rw h e

pub to_reply : (v w : Reply) (x : Bool) → v ≡ w → x ≡ reply_sound w → x ≡ reply_sound v
to_reply v w x h e = rw h e

pub to_phase : (v w : Phase) (x : Bool) → v ≡ w → x ≡ phase_sound w → x ≡ phase_sound v
to_phase v w x h e = rw h e

pub to_mine : (v w : Phase) (x : ℕ) → v ≡ w → x ≡ mine_of w → x ≡ mine_of v
to_mine v w x h e = rw h e

pub to_due : (v w : Phase) (x : ℕ) → v ≡ w → x ≡ to_come w → x ≡ to_come v
to_due v w x h e = rw h e

pub to_unmarked : (v w : Phase) (x : Bool) → v ≡ w → x ≡ is_unmarked w → x ≡ is_unmarked v
to_unmarked v w x h e = rw h e

-- a frame that collects, by what its command was told to be
pub forward_told : (v : Phase) (command : Command) (got crc mine : ℕ) (released blocked t : Bool) → v ≡ Collecting command got crc mine released blocked
    → t ≡ is_forward command → (t && not blocked) ≡ is_unmarked v
unfolding is_unmarked
forward_told v command got crc mine released blocked t h e = rw (h, e)

-- what a forward owes, by the tests
module _ (command : Command) (got words : ℕ) (released blocked : Bool) (w : words ≡ data_words command) where
  pub owes : (released && not blocked) ≡ true → words - got ≡ owed_by command got released blocked
  unfolding owed_by
  owes h = pick_true _ _ _ _ h (rw w)

  pub owes_none : (released && not blocked) ≡ true → words ≤ got → 0 ≡ owed_by command got released blocked
  owes_none h l = let z : 0 ≡ words - got = omega arith in z ∙ owes h

  pub owes_not : (released && not blocked) ≡ false → 0 ≡ owed_by command got released blocked
  unfolding owed_by
  owes_not h = pick_false _ _ _ _ h refl
