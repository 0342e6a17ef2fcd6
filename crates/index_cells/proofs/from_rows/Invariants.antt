use mathlib.Core.Path.{◌≡◌}
use Rattle.index_model.specs.Cells.{second_from}
use Rattle.index_cells.proofs.from_rows.Given as goal

abbrev pub invariant-loop-i : goal.invariant-loop-i
invariant-loop-i l = l.cells ≡ second_from l.rows l.second l.i
