-- `order_lines::text::which` is safe and ends.
use Rattle.std.proofs.Common.{◌-◌, length, rules}
use Rattle.order_lines.proofs.text.which.Statement.{statement}
use Rattle.order_lines.proofs.text.which.Tie as tie

abbrev invariant-loop : tie.invariant-loop-k
invariant-loop list text from to count₀ same₀ i₀ k₀ count same i k = Unit {0}

abbrev decreases-loop : tie.decreases-loop-k
decreases-loop list text from to count₀ same₀ i₀ k₀ count same i k = length list - k

pub which_spec : {M : Type 1} → statement M
which_spec = tie.close (tie.spec invariant-loop decreases-loop (λ c. search rules) (λ c. search rules) (λ c. search rules) (λ c. search rules) (λ c κs. search rules) (λ c. search rules) (λ c. search rules) (λ c κs. search rules) (λ c κs. search rules) (λ c. search rules) (λ c. search rules) (λ c. search rules))
