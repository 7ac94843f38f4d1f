-- A bridge with its two stores, as a run has them. Assumes nothing.
use Rattle.std.specs.Prelude.{replicate}
use Rattle.state.specs.Rings.{tx_size, rx_size}
use Rattle.state.specs.declared.Bridge.{Bridge}
use Rattle.bridge.specs.Runs.{Config}
use Rattle.device.specs.declared.Device.{Device}

abbrev pub lent : Device → Config
lent d = record { bridge = d.bridge; tx = d.tx; rx = d.rx }

-- Stores of zeros.
abbrev pub blank : Bridge → Config
blank b = record { bridge = b; tx = replicate tx_size 0; rx = replicate rx_size 0 }
