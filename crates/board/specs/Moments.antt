-- A bridge with its stores as a moment of a run (01 What the bridge is). Assumes nothing.
use Rattle.std.specs.Prelude.{List, ℕ}
use Rattle.state.specs.declared.Bridge.{Bridge}
use Rattle.bridge.specs.Runs.{Config}

abbrev pub config : Bridge → List ℕ → List ℕ → Config
config b tx rx = record { bridge = b; tx = tx; rx = rx }
