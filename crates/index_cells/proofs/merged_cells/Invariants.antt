use mathlib.Core.Path.{◌≡◌}
use lib.ListN.{length, get_or}
use Rattle.lists.proofs.Fill.{Filled}
use Rattle.index_model.specs.Cells.{width, merge}
use Rattle.index_cells.proofs.merged_cells.Given as goal

abbrev pub invariant-loop-j : goal.invariant-loop-j
invariant-loop-j l =
    (length l.initial.cells ≡ width) × Filled l.initial.cells (λ k. merge k (get_or l.initial.cells k 0) (get_or l.row k 0)) 0 l.j l.cells
