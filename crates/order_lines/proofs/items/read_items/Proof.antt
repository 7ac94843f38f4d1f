-- `order_lines::items::read_items` is safe and ends.
use Rattle.std.proofs.Common.{◌-◌, ◌≤◌, rules}
use Rattle.order_lines.proofs.items.read_items.Statement.{statement}
use Rattle.order_lines.proofs.items.read_items.Tie as tie

abbrev invariant-loop : tie.invariant-loop-at
invariant-loop text end fields₀ words₀ command count₀ fields-end₀ from₀ to₀ at₀ fields words count fields-end from to at = count ≤ at

abbrev decreases-loop : tie.decreases-loop-at
decreases-loop text end fields₀ words₀ command count₀ fields-end₀ from₀ to₀ at₀ fields words count fields-end from to at = end - at

pub read_items_spec : {M : Type 1} → statement M
read_items_spec = tie.close (tie.spec invariant-loop decreases-loop (λ c κs. search rules) (λ c. search rules) (λ c. search rules) (λ c κs. search rules) (λ c κs. search rules) (λ c κs. search rules) (λ c. search rules) (λ c. search rules) (λ c κs. search rules) (λ c. search rules) (λ c. search rules) (λ c κs. search rules) (λ c. search rules))
