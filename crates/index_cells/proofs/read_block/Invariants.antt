use mathlib.Core.Path.{◌≡◌}
use lib.ListN.{length}
use Rattle.lists.proofs.Fill.{Filled}
use Rattle.index_model.specs.Cells.{width, cell}
use Rattle.index_cells.proofs.read_block.Given as goal

abbrev pub invariant-loop-j : goal.invariant-loop-j
invariant-loop-j l = (length l.initial.block ≡ width) × Filled l.initial.block (cell l.cells l.i) 0 l.j l.block
