-- A tick keeps the record rules (01 Notes, note 2: "every step keeps them"). Assumes nothing.
use mathlib.Core.Path.{◌≡◌, refl}
use mathlib.Core.Bool.{Bool, true, false, not, ◌&&◌, ◌||◌}
use Prim.Native.Nat.{ℕ}
use lib.Dec.{ltb, leb, eqb}
use lib.ListN.{length}
use borrow.Author.Tests.{not-true, eq-eqb}
use Rattle.base.specs.Pick.{pick, and_l, and_r}
use Rattle.ticks.specs.Ticks.{blocked_in, flags_sent, phase_after, control_ticked, tick_ends, tick_hears, ticked}
use Rattle.command.specs.declared.Command.TheVariants.{Filler, Malformed, Forward, DataRead, RegisterWrite, RegisterRead, SoftReset}
use Rattle.plan.specs.Plan.{settled}
use Rattle.line.specs.Reader.{hear}
use Rattle.reader.specs.Reader.{tick_reader}
use Rattle.registers.specs.declared.Flags.{Flags}
use Rattle.rules.specs.Sound.{sound}
use Rattle.next.specs.Next.{may_start}
use Rattle.sender.specs.Sender.{tick_sender}
use Rattle.sender.specs.declared.Sent.{Sent}
use Rattle.state.specs.Frame.{fwd, progress, mine_of, to_come, forward_sound, collect_sound, phase_sound}
use Rattle.state.specs.declared.Bridge.{Bridge}
use Rattle.state.specs.declared.Fwd.{Fwd}
use Rattle.state.specs.declared.Phase.{Phase}
use Rattle.state.specs.declared.Phase.TheVariants.{Idle, Collecting, Answering, Discarding}
use Rattle.state.specs.declared.Sending.{Sending}
use Rattle.kept.proofs.Owed.{unreleased_owes_none, blocked_brings_none}
use Rattle.base.specs.Truth.{or_true}
use Rattle.kept.proofs.Sound.{sound_facts, facts_sound}
use Rattle.kept.specs.Rules.{SendRules, BridgeRules}
use Rattle.kept.proofs.Sender.{rules_requeued, tick_sender_keeps, tick_starved}
use Rattle.kept.proofs.Marks.{sent_marks, tick_marks, tick_reader_steady}
use Rattle.kept.proofs.Pieces.{fit_steady}
use Rattle.kept.proofs.Stands.{tick_stands}
use Rattle.events.proofs.Control.{sent_hears, tick_control}
use Rattle.kept.proofs.Reader.{Takes, tick_reader_keeps, tick_reader_ear}

-- a frame with words to bring is a forward that is released: blocked, it brings none
pub blocked_owes_none : (p : Phase) → phase_sound p ≡ true → to_come (blocked_in p) ≡ 0
unfolding phase_sound to_come blocked_in collect_sound
blocked_owes_none Idle s = refl
blocked_owes_none (Collecting Filler got sum mine released blocked) s = cc
blocked_owes_none (Collecting Malformed got sum mine released blocked) s = cc
blocked_owes_none (Collecting (Forward crc words ends reads) got sum mine released blocked) s = blocked_brings_none _ got released
blocked_owes_none (Collecting (DataRead crc words) got sum mine released blocked) s =
    unreleased_owes_none _ _ _ _ (not-true released (search (and_l, and_r)))
blocked_owes_none (Collecting (RegisterWrite crc address count) got sum mine released blocked) s =
    unreleased_owes_none _ _ _ _ (not-true released (search (and_l, and_r)))
blocked_owes_none (Collecting (RegisterRead crc address count) got sum mine released blocked) s =
    unreleased_owes_none _ _ _ _ (not-true released (search (and_l, and_r)))
blocked_owes_none (Collecting SoftReset got sum mine released blocked) s =
    unreleased_owes_none _ _ _ _ (not-true released (search (and_l, and_r)))
blocked_owes_none (Answering reply sum) s = refl
blocked_owes_none Discarding s = refl

pub blocked_mine : (p : Phase) → mine_of (blocked_in p) ≡ mine_of p
unfolding mine_of blocked_in
blocked_mine Idle = refl
blocked_mine (Collecting command got sum mine released blocked) = refl
blocked_mine (Answering reply sum) = refl
blocked_mine Discarding = refl

forward_blocked : (f : Fwd) (got sum mine : ℕ) (released blocked : Bool) → mine ≡ 0
    → forward_sound f (progress got sum mine released blocked) ≡ true → forward_sound f (progress got sum mine released true) ≡ true
forward_blocked f got sum mine released blocked m s =
    let none : eqb mine (pick (released || true) 0 got) ≡ true = rw (or_true released) (unfold pick in eq-eqb mine 0 m) in
    let now : (f.crc || released || true || ltb got f.words || (eqb f.words 0 && eqb f.ends 0)) ≡ true =
    rw (or_true (f.crc || released)) in
    let within : (leb got f.words && leb f.words 4096 && leb f.ends 127) ≡ true = search (and_l, and_r) in
    let plain : not (released && f.crc) ≡ true = search (and_l, and_r) in
    rw (within, none, plain, now)

pub blocked_sound : (p : Phase) → mine_of p ≡ 0 → phase_sound p ≡ true → phase_sound (blocked_in p) ≡ true
unfolding mine_of phase_sound blocked_in collect_sound
blocked_sound Idle m s = s
blocked_sound (Collecting Filler got sum mine released blocked) m s = s
blocked_sound (Collecting Malformed got sum mine released blocked) m s = s
blocked_sound (Collecting (Forward crc words ends reads) got sum mine released blocked) m s =
    forward_blocked (fwd crc words ends reads) got sum mine released blocked m s
blocked_sound (Collecting (DataRead crc words) got sum mine released blocked) m s = s
blocked_sound (Collecting (RegisterWrite crc address count) got sum mine released blocked) m s = s
blocked_sound (Collecting (RegisterRead crc address count) got sum mine released blocked) m s = s
blocked_sound (Collecting SoftReset got sum mine released blocked) m s = s
blocked_sound (Answering reply sum) m s = s
blocked_sound Discarding m s = s

-- the phase that a tick leaves: blocked where the tick was starved
module _ (p : Phase) (s : phase_sound p ≡ true) where
  pub rules_phased : (starved : Bool) (t : Sending) → (starved ≡ true → mine_of p ≡ 0) → SendRules t (pick starved 0 (to_come p)) (pick starved 0 (mine_of p))
      → SendRules t (to_come (phase_after p starved)) (mine_of (phase_after p starved))
  unfolding phase_after pick
  rules_phased true t m r = rw (blocked_owes_none p s, blocked_mine p, m refl) r
  rules_phased false t m r = r

  pub sound_phased : (starved : Bool) → (starved ≡ true → mine_of p ≡ 0) → phase_sound (phase_after p starved) ≡ true
  unfolding phase_after pick
  sound_phased true m = blocked_sound p (m refl) s
  sound_phased false m = s

pub tick_keeps : (b : Bridge) (sin : Bool) (w : ℕ) → BridgeRules b → BridgeRules (ticked b sin w).bridge
unfolding ticked tick_hears tick_ends control_ticked settled
tick_keeps b sin w r =
    let s : Sent = tick_sender b.sending (may_start b.control) w in
    let p : Phase = b.frame.phase in
    let m : s.starved ≡ true → mine_of p ≡ 0 = λ e. (tick_starved b.sending (may_start b.control) w (to_come p) (mine_of p) r.sending e).1 in
    let a : SendRules s.sending (pick s.starved 0 (to_come p)) (pick s.starved 0 (mine_of p))
    = tick_sender_keeps b.sending (may_start b.control) w (to_come p) (mine_of p) r.sending in
    let f : Flags = flags_sent b.control.flags s in
    let k : Takes s.sending.queue (hear b.receiving.reader.ear sin).ear (tick_reader b.receiving s.sending.queue f sin)
    = tick_reader_keeps b.receiving s.sending.queue f sin r.rx a.queue a.eight in
    let t = tick_stands b.sending (may_start b.control) w (to_come p) (mine_of p) r.sending r.stands in
    let v = sent_marks b.receiving b.sending.queue s.sending.queue b.control.flags f t.1 (sent_hears b.control.flags s) r.marks in
    let y = tick_reader_steady b.receiving s.sending.queue f a.queue a.eight t.0.standing v sin in
    record {
      sending = rules_phased p r.phase s.starved _ m (rules_requeued s.sending _ _ _ a k.queue);
      stands = record { standing = y.standing; sender = fit_steady s.sending.sender s.sending.queue _ y t.0.sender };
      phase = sound_phased p r.phase s.starved m;
      rx = k.rx;
      ear = tick_reader_ear b.receiving s.sending.queue f sin r.rx a.queue a.eight r.ear;
      marks = tick_marks b.receiving s.sending.queue f a.queue a.eight t.0.standing v sin;
      control = tick_control b sin w r.control;
      regs = r.regs;
      algorithm = r.algorithm;
    }

pub tick_sound : (b : Bridge) (sin : Bool) (w : ℕ) → length b.sending.queue.places ≡ 8 → sound b ≡ true → sound (ticked b sin w).bridge ≡ true
tick_sound b sin w l s = facts_sound (ticked b sin w).bridge (tick_keeps b sin w (sound_facts b s l))
