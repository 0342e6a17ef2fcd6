use Rattle.std.proofs.Common.{arith}
use Rattle.index_model.specs.Cells.{merge_by}
use Rattle.index_cells.proofs.merge_cell.Goals as goal

pub returns-then-is_greatest : goal.returns-then-is_greatest
unfolding merge_by
returns-then-is_greatest c = grind arith

pub returns-else-is_greatest : goal.returns-else-is_greatest
unfolding merge_by
returns-else-is_greatest c = grind arith
