-- Every event keeps the record rules (01 Notes, note 2: "every state reached from power-up obeys them"). Assumes nothing.
use mathlib.Core.Path.{◌≡◌}
use mathlib.Core.Bool.{true}
use Prim.Native.Nat.{ℕ}
use lib.ListN.{length}
use Rattle.events.specs.Events.{reacted}
use Rattle.events.specs.declared.Event.{Event}
use Rattle.events.specs.declared.Event.TheVariants.{Power, Word, Release, Tick, Clock}
use Rattle.command.specs.Layouts.{Layouts}
use Rattle.rules.specs.Sound.{sound}
use Rattle.state.specs.declared.Bridge.{Bridge}
use Rattle.kept.proofs.Fits.{LayoutFit}
use Rattle.kept.proofs.Host.{host_keeps, release_keeps}
use Rattle.events.proofs.Quiet.{power_keeps, clock_keeps}
use Rattle.kept.specs.Rules.{BridgeRules}
use Rattle.kept.proofs.Sound.{sound_facts, facts_sound}
use Rattle.events.proofs.Ticks.{tick_keeps}

pub rules_keep : (l : Layouts) → LayoutFit l → (b : Bridge) (e : Event) (w x : ℕ) → BridgeRules b → BridgeRules (reacted l b e w x).bridge
unfolding reacted
rules_keep l f b (Power good layout) w x r = power_keeps good layout
rules_keep l f b (Word word) w x r = host_keeps l f b _ word x r
rules_keep l f b Release w x r = release_keeps l b _ r
rules_keep l f b (Tick sin) w x r = tick_keeps b sin w r
rules_keep l f b (Clock reading) w x r = clock_keeps b reading r

pub keeps : (l : Layouts) → LayoutFit l → (b : Bridge) (e : Event) (w x : ℕ) → length b.sending.queue.places ≡ 8 → sound b ≡ true
    → sound (reacted l b e w x).bridge ≡ true
keeps l f b e w x n s = facts_sound (reacted l b e w x).bridge (rules_keep l f b e w x (sound_facts b s n))

pub eight_kept : (l : Layouts) → LayoutFit l → (b : Bridge) (e : Event) (w x : ℕ) → length b.sending.queue.places ≡ 8 → sound b ≡ true
    → length (reacted l b e w x).bridge.sending.queue.places ≡ 8
eight_kept l f b e w x n s = (rules_keep l f b e w x (sound_facts b s n)).sending.eight
