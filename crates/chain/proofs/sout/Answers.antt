use Rattle.std.proofs.Common.{rules}
use Rattle.chain.proofs.Laws.{to_wrong_tx, to_wrong_rx, to_broken, to_bit, may_choose}
use Rattle.chain.proofs.sout.Goals as goal
use Rattle.chain.proofs.sout.Goals.{then-tx-ne512-via-then-tx-ne512, then-tx-ne512-via-else-tx-ne512+then-rx-ne256, then-tx-ne512-via-else-tx-ne512+else-rx-ne256+then-not-sound}

pub returns-then-tx-ne512 : goal.returns-then-tx-ne512
returns-then-tx-ne512 c =
    let b = c.args.bridge in
    let tx = c.args.tx.now in
    let rx = c.args.rx.now in
    elim c.then-tx-ne512.branch [
      | then-tx-ne512-via-then-tx-ne512 w ↦ to_wrong_tx b tx rx w.if-tx-ne512.true
      | then-tx-ne512-via-else-tx-ne512+then-rx-ne256 w ↦ to_wrong_rx b tx rx w.if-tx-ne512.false w.if-rx-ne256.true
      | then-tx-ne512-via-else-tx-ne512+else-rx-ne256+then-not-sound w ↦
          to_broken b tx rx w.if-tx-ne512.false w.if-rx-ne256.false _ w.sound.ensures w.if-not-sound.true
    ]

pub choose-kind-requires : goal.choose-kind-requires
choose-kind-requires c = search (rules, may_choose)

pub returns : goal.returns
returns c = search (rules, to_bit)
