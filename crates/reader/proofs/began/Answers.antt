use Rattle.std.proofs.Common.{◌≡◌, ◌<◌, rules, arith}
use Rattle.state.specs.Queue.{no_place, claimed}
use Rattle.reader.proofs.Laws.{to_claim, to_no_claim, some_claim, no_claim}
use Rattle.reader.proofs.began.Goals as goal

pub bounds-queue-i : goal.bounds-queue-i
bounds-queue-i c =
    let v : (c.in-Some.i ≡ claimed c.args.queue) × (c.in-Some.i < c.args.queue.begun) =
    some_claim c.args.queue _ c.claimed.ensures c.in-Some.i c.in-Some.is in
    omega (arith, v.1, c.requires.order, c.requires.most)

pub returns-in-Some : goal.returns-in-Some
unfolding no_place
returns-in-Some c =
    to_claim _ _ _ _ _ c.unclaimed-started.ensures c.in-Some.i (some_claim c.args.queue _ c.claimed.ensures c.in-Some.i c.in-Some.is)

pub returns-in_default : goal.returns-in_default
returns-in_default c = search (rules, to_no_claim, no_claim)
