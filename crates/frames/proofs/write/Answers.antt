-- A refusal leaves the buffer, and a frame is at its front.
use Rattle.std.proofs.Common.{◌≡◌, sym, ◌∙◌, ap}
use Rattle.std.specs.Prelude.{ℕ, Option, None, Some, Err}
use Rattle.std.specs.Result.{result_ok}
use Rattle.std.specs.Option.{ok_or}
use Rattle.std.proofs.lemmas.Result.{err_from_is_err_and}
use Rattle.frames.specs.declared.WriteError.TheVariants.{OutsideLimits}
use Rattle.frames.proofs.Writing.{writes_too_many, writes_outside, writes_short, writes_frame}
use Rattle.frames.proofs.write.Goals as goal

pub returns-then-count-gt4096 : goal.returns-then-count-gt4096
returns-then-count-gt4096 c = writes_too_many c.args.layout c.args.start c.args.order _ _ c.if-count-gt4096.true

pub returns-in_err-word : goal.returns-in_err-word
returns-in_err-word c =
    let told = err_from_is_err_and c.from_residual.result c.from_residual.ensures.1 in
    let none : c.head.result ≡ None = c.ok_or.ensures.ok_part ∙ ap result_ok c.in_err-word.was in
    let is : c.from_residual.result ≡ Err OutsideLimits =
    told.1 ∙ ap Err told.2 ∙ sym c.in_err-word.was ∙ c.ok_or.ensures.value ∙ ap (λ (o : Option ℕ). ok_or o OutsideLimits) none in
    rw is (writes_outside c.args.layout c.args.start c.args.order _ _ _ c.head.ensures none)

pub returns-then-buffer-count : goal.returns-then-buffer-count
returns-then-buffer-count c =
    let some : c.head.result ≡ Some c.in_ok-word.word = c.ok_or.ensures.ok_part ∙ ap result_ok c.in_ok-word.was in
    writes_short c.args.layout c.args.start c.args.order _ _ _ c.head.ensures _ some c.if-buffer-count.true

pub returns : goal.returns
returns c =
    let some : c.head.result ≡ Some c.in_ok-word.word = c.ok_or.ensures.ok_part ∙ ap result_ok c.in_ok-word.was in
    writes_frame c.args.layout c.args.start c.args.order _ _ _ c.head.ensures _ some _ c.if-buffer-count.false c.fill.ensures
