-- A number fits or is none.
use Rattle.std.proofs.Common.{◌∙◌}
use Rattle.icelichen_frames.proofs.Laws.{fits}
use Rattle.icelichen_frames.proofs.field.Goals as goal

pub returns : goal.returns
returns c = c.ok.ensures.value ∙ fits c.args.number c.try_from.result c.try_from.ensures
