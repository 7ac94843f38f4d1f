-- The row's answer is due where its fields are within their limits.
use Rattle.std.proofs.Common.{◌∙◌, ap₂}
use Rattle.std.specs.Prelude.{Bool, Some, None}
use Rattle.base.specs.Pick.{pick}
use Rattle.frames.specs.Answers.{due_of}
use Rattle.frames.specs.declared.Due.{Due}
use Rattle.frames.proofs.Laws.{some_where}
use Rattle.frames.proofs.rows.due.Goals as goal

pub returns : goal.returns
unfolding due_of
returns c =
    c.then_some.ensures
    ∙ some_where _ _
    ∙ ap₂ (λ (t : Bool) (due : Due). pick t (Some due) None) c.fields_within.ensures c.answer_of.ensures
