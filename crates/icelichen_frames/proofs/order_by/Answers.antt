-- Each number is told by its field.
use Rattle.std.proofs.Common.{sym, ◌∙◌}
use Rattle.base.specs.Pick.{pick_true, and_both}
use Rattle.base.specs.Truth.{and_none}
use Rattle.frames.proofs.Laws.{and_first_fails, none_where, some_were}
use Rattle.icelichen_frames.specs.Codes.{sixteen, order_by}
use Rattle.icelichen_frames.proofs.Laws.{cut}
use Rattle.icelichen_frames.proofs.order_by.Goals as goal

pub returns-in_err-field : goal.returns-in_err-field
returns-in_err-field c = cut c.args.command c.args.ends c.args.address c.args.count _ (and_first_fails _ _ (none_where _ _ (sym c.in_err-field.was ∙ c.field.ensures))) c.from_residual.ensures

pub returns-in_err-field-2 : goal.returns-in_err-field-2
returns-in_err-field-2 c = cut c.args.command c.args.ends c.args.address c.args.count _ (and_none _ _ (and_first_fails _ _ (none_where _ _ (sym c.in_err-field-2.was ∙ c.field-2.ensures)))) c.from_residual-in_err-field-2.ensures

pub returns-in_err-field-3 : goal.returns-in_err-field-3
returns-in_err-field-3 c = cut c.args.command c.args.ends c.args.address c.args.count _ (and_none _ _ (and_none _ _ (and_first_fails _ _ (none_where _ _ (sym c.in_err-field-3.was ∙ c.field-3.ensures))))) c.from_residual-in_err-field-3.ensures

pub returns-in_err-field-4 : goal.returns-in_err-field-4
returns-in_err-field-4 c = cut c.args.command c.args.ends c.args.address c.args.count _ (and_none (sixteen c.args.command) _ (and_none (sixteen c.args.ends) _ (and_none (sixteen c.args.address) _ (none_where _ _ (sym c.in_err-field-4.was ∙ c.field-4.ensures))))) c.from_residual-in_err-field-4.ensures

pub returns : goal.returns
unfolding order_by
returns c =
    let a = some_were (sixteen c.args.command) c.in_ok-field.field-0 c.args.command (sym c.in_ok-field.was ∙ c.field.ensures) in
    let b = some_were (sixteen c.args.ends) c.in_ok-field-2.field-0 c.args.ends (sym c.in_ok-field-2.was ∙ c.field-2.ensures) in
    let d = some_were (sixteen c.args.address) c.in_ok-field-3.field-0 c.args.address (sym c.in_ok-field-3.was ∙ c.field-3.ensures) in
    let e = some_were (sixteen c.args.count) c.in_ok-field-4.field-0 c.args.count (sym c.in_ok-field-4.was ∙ c.field-4.ensures) in
    pick_true _ _ _ _ (and_both _ _ a.0 (and_both _ _ b.0 (and_both _ _ d.0 e.0))) (rw (← a.1, ← b.1, ← d.1, ← e.1) c.order_of.ensures)
