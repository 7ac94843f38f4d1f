-- `playing::put` meets its contract: a turn of its loop is `put_again`.
use Prim.Native.Nat.{◌-◌}
use mathlib.Core.Path.{◌≡◌}
use lib.ListN.{length}
use borrow.Author.Rules.{rules}
use Rattle.playing.proofs.Laws.{Put, put_begins, put_again, put_ends}
use Rattle.playing.proofs.put.Statement.{statement}
use Rattle.playing.proofs.put.Tie as tie

abbrev invariant-loop : tie.invariant-loop-i
invariant-loop out₀ at line i₀ out i = Put out₀ at line i out

abbrev decreases-loop : tie.decreases-loop-i
decreases-loop out₀ at line i₀ out i = line.length - i

loop_holds : tie.Need-loop-i-init invariant-loop decreases-loop
loop_holds c = search (rules, put_begins)

element_copy_out_out : tie.Need-bounds-line-i invariant-loop decreases-loop
element_copy_out_out c = search rules

add_out : tie.Need-overflow_add-out invariant-loop decreases-loop
add_out c = search rules

slice_write_out : tie.Need-bounds-out-at invariant-loop decreases-loop
slice_write_out c = search rules

add_i : tie.Need-overflow_add-i invariant-loop decreases-loop
add_i c = search rules

loop_less : tie.Need-loop-i-smaller invariant-loop decreases-loop
loop_less c = search rules

loop_again : tie.Need-loop-i-preserved invariant-loop decreases-loop
loop_again c = search (rules, put_again)

add_result : tie.Need-overflow_add-result invariant-loop decreases-loop
add_result c = search rules

same_length : tie.Need-shape_of-out invariant-loop decreases-loop
same_length c = search rules

returns : tie.Need-returns invariant-loop decreases-loop
returns c = search (rules, put_ends)

pub put_spec : {M : Type 1} → statement M
put_spec =
    tie.close
    (tie.spec invariant-loop decreases-loop loop_holds element_copy_out_out add_out slice_write_out add_i loop_less loop_again add_result same_length
    returns)
