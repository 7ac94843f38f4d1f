use Rattle.std.proofs.Common.{rules}
use Rattle.base.specs.Pick.{picks}
use Rattle.verdict.specs.Verdicts.{verdict_by}
use Rattle.verdict.proofs.judge.Goals as goal
use Rattle.verdict.proofs.judge.Goals.{then-tx-ne512-via-then-tx-ne512, then-tx-ne512-via-else-tx-ne512+then-rx-ne256, then-words-eq0-via-then-words-eq0, then-words-eq0-via-else-words-eq0+then-words-gt30}

pub returns-then-tx-ne512 : goal.returns-then-tx-ne512
unfolding verdict_by
returns-then-tx-ne512 c =
    elim c.then-tx-ne512.branch [
      | then-tx-ne512-via-then-tx-ne512 w ↦ (let h = w.if-tx-ne512.true in search (rules, picks) depth 12 fits 4000)
      | then-tx-ne512-via-else-tx-ne512+then-rx-ne256 w ↦
          (let h = w.if-tx-ne512.false in let k = w.if-rx-ne256.true in search (rules, picks) depth 12 fits 4000)
    ]

pub returns-then-not-sound : goal.returns-then-not-sound
unfolding verdict_by
returns-then-not-sound c = search (rules, picks) depth 12 fits 4000

pub returns-then-slot-gt39 : goal.returns-then-slot-gt39
unfolding verdict_by
returns-then-slot-gt39 c = search (rules, picks) depth 12 fits 4000

pub returns-then-words-eq0 : goal.returns-then-words-eq0
unfolding verdict_by
returns-then-words-eq0 c =
    elim c.then-words-eq0.branch [
      | then-words-eq0-via-then-words-eq0 w ↦ (let h = w.if-words-eq0.true in search (rules, picks) depth 12 fits 4000)
      | then-words-eq0-via-else-words-eq0+then-words-gt30 w ↦
          (let h = w.if-words-eq0.false in let k = w.if-words-gt30.true in search (rules, picks) depth 12 fits 4000)
    ]

pub returns : goal.returns
unfolding verdict_by
returns c = search (rules, picks) depth 12 fits 4000
