-- Host events that are done in place. No rule: what they do is what `turn` says of them. Assumes nothing.
use Rattle.std.specs.Prelude.{Bool, true, false, ℕ, ◌+◌, Option, None, Some}
use Rattle.state.specs.declared.Deed.{Deed}
use Rattle.state.specs.declared.Deed.TheVariants.{Leave, Enqueue, TakeBack, ClearAll, ResetAll}

-- the sending side is changed by more than a stored word
abbrev pub acts : Deed → Bool
acts Leave = false
acts (Enqueue p) = true
acts (TakeBack n) = true
acts ClearAll = true
acts ResetAll = true

abbrev pub count_after : ℕ → Option ℕ → ℕ
count_after n None = n
count_after n (Some w) = n + 1
