-- `playing::run` meets its contract: a turn of its loop is a group.
use native.Mathlib.Omega.{arith}
use lib.ListN.{length}
use borrow.Author.Rules.{rules}
use Rattle.playing.proofs.Groups.{Left, left_begins, to_last, to_stop, front_length, group_fits, is_group, group_space, again}
use Rattle.playing.proofs.run.Statement.{statement}
use Rattle.playing.proofs.run.Tie as tie

abbrev invariant-loop : tie.invariant-loop-left
invariant-loop tx₀ rx₀ records out₀ bridge₀ at₀ left₀ tx rx out bridge at left = Left bridge₀ tx₀ rx₀ records out₀ bridge tx rx out at left

abbrev decreases-loop : tie.decreases-loop-left
decreases-loop tx₀ rx₀ records out₀ bridge₀ at₀ left₀ tx rx out bridge at left = length left

mul_n : tie.Need-overflow_mul-n invariant-loop decreases-loop
mul_n c = let f = group_fits _ _ _ _ _ _ _ _ _ _ _ c.loop-left.invariant _ c.ahead-n.ensures in search rules

returns : tie.Need-returns-then-n-eq0 invariant-loop decreases-loop
returns c =
    to_stop _ _ _ _ _ _ _ _ _ _ _ c.loop-left.invariant _ c.ahead-n.ensures (omega (arith, c.loop-left-test.true)) c.if-n-eq0.true _ _
    c.stop.ensures.0 c.stop.ensures.1

loop_again : tie.Need-loop-left-preserved invariant-loop decreases-loop
loop_again c =
    let v = c.loop-left.invariant in
    again _ _ _ _ _ _ _ _ _ _ _ v _ c.ahead-n.ensures _ _ _ _ c.group-part.ensures (search rules) (search rules) (search rules)

pub run_spec : {M : Type 1} → statement M
run_spec =
    tie.close
    (tie.spec invariant-loop decreases-loop (λ c. search (rules, left_begins)) (λ c κs. search rules) mul_n (λ c κs. search rules)
    (λ c. search rules) (λ c. search rules) (λ c. search rules) returns (λ c. search (rules, front_length, group_fits))
    (λ c κs. search (rules, is_group, group_space)) (λ c. search (rules, group_fits)) (λ c. search (rules, group_fits)) (λ c. search rules)
    (λ c. search (rules, group_fits)) loop_again (λ c κs. search rules) (λ c. search rules) (λ c. search rules) (λ c. search rules)
    (λ c. search (rules, to_last)))
