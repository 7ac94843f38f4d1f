-- The record rules as a test and as facts are the same. Assumes nothing.
use mathlib.Core.Path.{◌≡◌, refl}
use mathlib.Core.Bool.{Bool, true, false}
use Prim.Native.Nat.{ℕ, ◌<◌}
use native.Mathlib.Omega.{arith}
use lib.ListN.{length}
use borrow.Author.Tests.{eqb-true}
use Rattle.base.specs.Pick.{pick, and_l, and_r}
use Rattle.command.specs.declared.Command.{Command}
use Rattle.command.specs.declared.Command.TheVariants.{Filler, Malformed, Forward, DataRead, RegisterWrite, RegisterRead, SoftReset}
use Rattle.rules.proofs.Facts.{sound_facts as facts, sound_from, some_waiting, piece_gone, piece_left, piece_ends, busy_used}
use Rattle.rules.specs.Facts.{Sound}
use Rattle.rules.specs.Sound.{sound}
use Rattle.state.specs.Frame.{fwd, progress, mine_of, owed_by, to_come, forward_sound, collect_sound, phase_sound}
use Rattle.state.specs.Facts.{QueueFit}
use Rattle.state.specs.declared.Bridge.{Bridge}
use Rattle.state.specs.declared.Fwd.{Fwd}
use Rattle.state.specs.declared.Sender.{Sender}
use Rattle.state.specs.declared.Phase.{Phase}
use Rattle.state.specs.declared.Phase.TheVariants.{Idle, Collecting, Answering, Discarding}
use Rattle.kept.specs.Rules.{BridgeRules}

-- a frame that has words to bring is released, and has none of its own in TX
forward_apart : (command : Command) (f : Fwd) (got sum mine : ℕ) (released blocked : Bool)
    → forward_sound f (progress got sum mine released blocked) ≡ true → 0 < owed_by command got released blocked → mine ≡ 0
unfolding owed_by pick
forward_apart command f got sum mine true blocked s h = eqb-true mine 0 (search (and_l, and_r))
forward_apart command f got sum mine false blocked s h = absurd (omega arith)

pub phase_apart : (p : Phase) → phase_sound p ≡ true → 0 < to_come p → mine_of p ≡ 0
unfolding phase_sound collect_sound to_come mine_of
phase_apart Idle s h = refl
phase_apart (Collecting Filler got sum mine released blocked) s h = cc
phase_apart (Collecting Malformed got sum mine released blocked) s h = cc
phase_apart (Collecting (Forward crc words ends reads) got sum mine released blocked) s h =
    forward_apart (Forward crc words ends reads) (fwd crc words ends reads) got sum mine released blocked s h
phase_apart (Collecting (DataRead crc words) got sum mine released blocked) s h = eqb-true mine 0 (search (and_l, and_r))
phase_apart (Collecting (RegisterWrite crc address count) got sum mine released blocked) s h = eqb-true mine 0 (search (and_l, and_r))
phase_apart (Collecting (RegisterRead crc address count) got sum mine released blocked) s h = eqb-true mine 0 (search (and_l, and_r))
phase_apart (Collecting SoftReset got sum mine released blocked) s h = eqb-true mine 0 (search (and_l, and_r))
phase_apart (Answering reply sum) s h = refl
phase_apart Discarding s h = refl

-- from the test to the facts; that there are eight places is the array's
pub sound_facts : (b : Bridge) → sound b ≡ true → length b.sending.queue.places ≡ 8 → BridgeRules b
sound_facts b s l =
    let f : Sound b = facts b s in
    let q : QueueFit b.sending.queue = f.queue in
    let sd : Sender = b.sending.sender in
    record {
      sending = record {
        tx = f.tx;
        queue = q;
        eight = l;
        gone = piece_gone sd _ _ sd.piece f.sender.piece;
        left = piece_left sd _ _ sd.piece f.sender.piece (λ u. q.words _ (busy_used b.sending.queue q u));
        ends = piece_ends sd _ _ sd.piece f.sender.piece (λ u. q.ends _ (busy_used b.sending.queue q u));
        sum = f.ledger.sum;
        room = f.ledger.last;
        some = some_waiting b.sending.queue f.standing;
        apart = phase_apart b.frame.phase f.phase;
      };
      stands = record { standing = f.standing; sender = f.sender };
      phase = f.phase;
      rx = f.rx;
      ear = f.ear;
      marks = f.marks;
      control = f.control;
      regs = f.regs;
      algorithm = f.algorithm;
    }

pub facts_sound : (b : Bridge) → BridgeRules b → sound b ≡ true
facts_sound b r =
    sound_from b (record {
      tx = r.sending.tx;
      rx = r.rx;
      regs = r.regs;
      control = r.control;
      queue = r.sending.queue;
      standing = r.stands.standing;
      sender = r.stands.sender;
      ear = r.ear;
      marks = r.marks;
      phase = r.phase;
      ledger = record { sum = r.sending.sum; last = r.sending.room };
      algorithm = r.algorithm;
    })
