-- `order_lines::text::find` is safe and ends.
use Rattle.std.proofs.Common.{◌+◌, ◌-◌, ◌≤◌, rules}
use Rattle.order_lines.proofs.text.find.Statement.{statement}
use Rattle.order_lines.proofs.text.find.Tie as tie

abbrev invariant-loop : tie.invariant-loop-i
invariant-loop text from to mark i₀ i = («from» ≤ i) × (i ≤ «from» + (to - «from»))

abbrev decreases-loop : tie.decreases-loop-i
decreases-loop text from to mark i₀ i = to - i

pub find_spec : {M : Type 1} → statement M
find_spec = tie.close (tie.spec invariant-loop decreases-loop (λ c. search rules) (λ c κs. search rules) (λ c κs. search rules) (λ c. search rules) (λ c. search rules) (λ c. search rules) (λ c. search rules) (λ c. search rules))
