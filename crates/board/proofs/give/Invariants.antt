-- What is left of the frame ends where the whole does.
use Rattle.std.proofs.Common.{◌≡◌, drop}
use Rattle.command.specs.Layouts.{layouts}
use Rattle.bridge.specs.Runs.{end_of}
use Rattle.callup.specs.CallUp.{given}
use Rattle.board.specs.Moments.{config}
use Rattle.board.proofs.give.Given as goal

abbrev pub invariant-loop-word : goal.invariant-loop-word
invariant-loop-word l =
    end_of layouts (config l.b l.tx l.rx) (given (drop l.word-index l.frame)) ≡ end_of layouts (config l.fn.bridge l.fn.tx l.fn.rx) (given l.fn.frame)
