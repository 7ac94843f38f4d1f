-- The bit that a tick sends, known before the bit that it reads (01 Numbers, "looped straight back"). Assumes nothing.
use Rattle.std.specs.Prelude.{Bool, true}
use Rattle.command.specs.Layouts.{Layouts}
use Rattle.events.specs.declared.Event.TheVariants.{Tick}
use Rattle.bridge.specs.Runs.{Config, out_of}

-- the SOUT bit of a tick there, whatever its SIN bit is (`proofs/Laws`, sout-turn)
unfoldable pub echo : Layouts → Config → Bool
echo l c = (out_of l c (Tick true)).answer.sout
