-- What a choice relies on: a start has a place that is not yet begun. `choose` gives it. Assumes nothing.
use Rattle.std.specs.Prelude.{◌<◌}
use Rattle.state.specs.declared.Queue.{Queue}
use Rattle.next.specs.declared.Next.{Next}
use Rattle.next.specs.declared.Next.TheVariants.{GoOn, LoadWord, Starve, LoadEnd, StartWords, StartEnds, Stay}

abbrev pub Room : Queue → Next → Type 0
Room q GoOn = Unit {0}
Room q LoadWord = Unit {0}
Room q Starve = Unit {0}
Room q LoadEnd = Unit {0}
Room q StartWords = q.begun < q.used
Room q StartEnds = q.begun < q.used
Room q Stay = Unit {0}
