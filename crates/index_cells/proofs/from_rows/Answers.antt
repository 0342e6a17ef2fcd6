use mathlib.Core.Path.{sym, ◌∙◌}
use Rattle.index_model.specs.Cells.{merged}
use Rattle.index_cells.proofs.Merging.{none_passed, row-merged, row-skipped}
use Rattle.index_cells.proofs.from_rows.Goals as goal
use Rattle.index_cells.proofs.from_rows.Goals.{then-row_within, else-row_within}

pub loop-i-init : goal.loop-i-init
loop-i-init c = none_passed _ _

pub loop-i-preserved : goal.loop-i-preserved
loop-i-preserved c =
    let a = c.args in
    elim c.if-row_within.branch [
      | then-row_within w ↦
          w.cells-is
          ∙ w.merged_cells-next.ensures
          ∙ (λ t. merged (c.loop-i.invariant t) (w.read_block.ensures t))
          ∙ row-merged a.rows.now a.second c.loop-i.i (sym c.row_within.ensures ∙ w.if-row_within.true)
      | else-row_within w ↦
          w.cells-is
          ∙ c.loop-i.invariant
          ∙ row-skipped a.rows.now a.second c.loop-i.i (sym c.row_within.ensures ∙ w.if-row_within.false)
    ]
