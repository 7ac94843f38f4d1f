-- What the record rules say of a frame: the numbers that the functions add fit, the registers exist. Assumes nothing.
use mathlib.Core.Path.{◌≡◌, sym, ◌∙◌}
use mathlib.Core.Bool.{Bool, true, not, ◌&&◌}
use Prim.Native.Nat.{ℕ, ◌+◌, ◌<◌, ◌≤◌}
use native.Mathlib.Omega.{arith}
use lib.Dec.{ltb, leb, eqb}
use Rattle.base.specs.Pick.{and_l, and_r}
use Rattle.command.specs.declared.Command.{Command}
use Rattle.command.specs.declared.Command.TheVariants.{Filler, Malformed, Forward, DataRead, RegisterWrite, RegisterRead, SoftReset}
use Rattle.state.specs.Frame.{fwd, progress, data_words, mine_of, forward_sound, collect_sound, reply_sound, phase_sound}
use Rattle.state.specs.Facts.{HostFit}
use Rattle.state.specs.declared.Reply.{Reply}
use Rattle.state.specs.declared.Phase.TheVariants.{Collecting, Answering}
use Rattle.state.specs.declared.Bridge.{Bridge}
use Rattle.state.specs.declared.Progress.{Progress}
use Rattle.host.specs.Frames.{summed}
use borrow.Author.Tests.{ltb-true, leb-true}

-- what a sound frame's command says of its words
module _ (command : Command) (at : Progress) (s : collect_sound command at ≡ true) where
  pub forward_room : (crc : Bool) (words ends : ℕ) (reads : Bool) → command ≡ Forward crc words ends reads → at.got < 65535
  unfolding collect_sound
  forward_room crc words ends reads h =
      let t : forward_sound (fwd crc words ends reads) at ≡ true = rw h at s in
      let l : at.got ≤ words = leb-true _ _ (search (and_l, and_r) depth 30) in
      let m : words ≤ 4096 = leb-true _ _ (search (and_l, and_r) depth 30) in
      omega arith

  pub register_span : (crc : Bool) (address count : ℕ) → command ≡ RegisterWrite crc address count → address + count ≤ 12
  unfolding collect_sound
  register_span crc address count h =
      let t : (leb at.got count && eqb at.mine 0 && not at.released && ltb 0 count && leb (address + count) 12) ≡ true = rw h at s in
      leb-true _ _ (search (and_l, and_r) depth 30)

  pub register_room : (crc : Bool) (address count : ℕ) → command ≡ RegisterWrite crc address count → at.got < data_words command
      → address + at.got < 12
  register_room crc address count h g =
      let l : at.got < count = rw h at g in
      let m : address + count ≤ 12 = register_span crc address count h in
      omega arith

-- the CRC so far is not asked about
pub summed_sound : (command : Command) (sum : ℕ) (at : Progress) → collect_sound command at ≡ true → collect_sound command (summed sum at) ≡ true
unfolding collect_sound
summed_sound Filler sum at h = h
summed_sound Malformed sum at h = h
summed_sound (Forward crc words ends reads) sum at h = h
summed_sound (DataRead crc words) sum at h = h
summed_sound (RegisterWrite crc address count) sum at h = h
summed_sound (RegisterRead crc address count) sum at h = h
summed_sound SoftReset sum at h = h

pub told_due : (command : Command) (got : ℕ) (t : Bool) → t ≡ ltb got (data_words command) → t ≡ true → got < data_words command
told_due command got t h k = ltb-true _ _ (sym h ∙ k)

-- what a sound frame's phase says
module _ (b : Bridge) (f : HostFit b) where
  module _ (command : Command) (got sum mine : ℕ) (released blocked : Bool) (h : b.frame.phase ≡ Collecting command got sum mine released blocked) where
    pub host_collects : collect_sound command (progress got sum mine released blocked) ≡ true
    unfolding phase_sound
    host_collects = rw h at f.phase

    pub host_mine : mine ≤ b.sending.tx.count
    unfolding mine_of
    host_mine = rw h at f.mine

  pub host_reply : (reply : Reply) (sum : ℕ) → b.frame.phase ≡ Answering reply sum → reply_sound reply ≡ true
  unfolding phase_sound
  host_reply reply sum h = rw h at f.phase
