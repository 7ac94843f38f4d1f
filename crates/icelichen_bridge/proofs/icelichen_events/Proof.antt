-- `icelichen_events` meets its contract.
use mathlib.Core.Path.{◌≡◌}
use borrow.Author.Rules.{rules}
use mir.Facts.{to_z-of_z}
use mir.Syntax.{w64}
use mir.Val.{to_z, of_z}
use Rattle.icelichen_bridge.proofs.Laws.{to_listed, to_list_leaves}
use Rattle.icelichen_bridge.proofs.icelichen_events.Statement.{statement}
use Rattle.icelichen_bridge.proofs.icelichen_events.Tie as tie

pub icelichen_events_spec : {M : Type 1} → statement M
icelichen_events_spec =
    tie.close
    (tie.spec (λ c κs. search rules) (λ c κs. search rules) (λ c κs. search rules) (λ c κs. search rules) (λ c κs. search rules) (λ c. search rules)
    (λ c. search rules) (λ c. search rules) (λ c.
    let code = c.list_code.ensures in
    let laid = c.lay.ensures in
    let number = c.number.ensures in
    let night = c.night-listed.ensures in
    let lent = c.lent.ensures in
    let one = to_listed _ _ _ _ _ _ _ _ _ _ _ _ _ lent night number _ laid.0 code in
    let two = to_list_leaves _ _ _ _ _ _ _ _ _ _ _ _ _ lent night number laid.1 in
    let whole : to_z w64 (of_z w64 c.list_code.result) ≡ c.list_code.result = to_z-of_z {w = w64} (search rules) in
    rw whole (one, two)))
