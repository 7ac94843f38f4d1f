use borrow.Author.Rules.{rules}
use Rattle.events.proofs.Laws.{cell_lt, to_kept, to_put}
use Rattle.events.proofs.write_cell.Goals as goal

pub bounds-cells-cell : goal.bounds-cells-cell
bounds-cells-cell c = search (rules, cell_lt)

pub returns-in-Some : goal.returns-in-Some
returns-in-Some c = search (rules, to_put)

pub returns-in_default : goal.returns-in_default
returns-in_default c = search (rules, to_kept)
