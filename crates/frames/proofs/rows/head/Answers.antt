-- The command word is there where fields and words are within their limits.
use Rattle.std.proofs.Common.{refl, sym, ◌∙◌}
use Rattle.base.specs.Pick.{pick_true, pick_false, and_both}
use Rattle.base.specs.Truth.{and_none}
use Rattle.frames.specs.Orders.{head_of}
use Rattle.frames.proofs.Laws.{and_first_fails}
use Rattle.frames.proofs.rows.head.Goals as goal
use Rattle.frames.proofs.rows.head.Goals.{else-fields_within-via-then-fields_within+else-words_within, else-fields_within-via-else-fields_within}

pub returns-then-words_within : goal.returns-then-words_within
unfolding head_of
returns-then-words_within c =
    pick_true _ _ _ _ (and_both _ _ (sym c.fields_within.ensures ∙ c.if-fields_within.true) (sym c.words_within.ensures ∙ c.if-words_within.true))
    (rw (c.number.ensures.value, c.low_bits.ensures.value) refl)

pub returns : goal.returns
unfolding head_of
returns c = elim c.else-fields_within.branch [
  | else-fields_within-via-then-fields_within+else-words_within w ↦
      pick_false _ _ _ _ (and_none _ _ (sym w.words_within.ensures ∙ w.if-words_within.false)) refl
  | else-fields_within-via-else-fields_within w ↦
      pick_false _ _ _ _ (and_first_fails _ _ (sym c.fields_within.ensures ∙ w.if-fields_within.false)) refl
]
