use Rattle.index_model.specs.Cells.{row_within}
use Rattle.index_cells.proofs.row_within.Goals as goal

pub returns : goal.returns
unfolding row_within
returns c = c.is_of.ensures
