-- `order_lines::text::number` is safe and ends.
use Rattle.std.proofs.Common.{◌-◌, ◌≤◌, rules}
use Rattle.order_lines.proofs.text.number.Statement.{statement}
use Rattle.order_lines.proofs.text.number.Tie as tie

abbrev invariant-loop : tie.invariant-loop-i
invariant-loop text from to base value₀ i₀ value i = value ≤ 65536

abbrev decreases-loop : tie.decreases-loop-i
decreases-loop text from to base value₀ i₀ value i = to - i

pub number_spec : {M : Type 1} → statement M
number_spec = tie.close (tie.spec invariant-loop decreases-loop (λ c. search rules) (λ c. search rules) (λ c κs. search rules) (λ c κs. search rules) (λ c. search rules) (λ c. search rules) (λ c. search rules) (λ c. search rules))
