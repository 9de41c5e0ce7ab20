-- `tail::column` meets its contract. Assumes nothing.
use Rattle.tail.proofs.Columns.{column_found}
use Rattle.tail.proofs.column.Goals as goal

pub returns : goal.returns
returns c = column_found _ c.requires.0 c.requires.1
