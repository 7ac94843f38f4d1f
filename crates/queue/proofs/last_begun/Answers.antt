use Rattle.std.proofs.Common.{◌≡◌, ◌∙◌, ◌≤◌, ◌-◌, arith}
use Rattle.queue.proofs.Laws.{to_youngest, to_none_begun}
use Rattle.queue.proofs.last_begun.Goals as goal

pub returns-in_err-last : goal.returns-in_err-last
returns-in_err-last c = c.from_residual.ensures ∙ to_none_begun c.args.queue (omega (arith, c.in_err-last.ensures))

pub returns : goal.returns
returns c =
    let q = c.args.queue in
    let h : (1 ≤ q.begun) × (c.in_ok-last.last ≡ q.begun - 1) = c.in_ok-last.ensures in
    to_youngest q c.place_at.result (omega (arith, h.0)) (rw h.1 at c.place_at.ensures)
