use mathlib.Core.Path.{ap, ◌∙◌}
use Rattle.index_model.specs.Cells.{with_block}
use Rattle.index_cells.proofs.Parts.{part-put, held-put, no-put}
use Rattle.index_cells.proofs.put_block.Goals as goal

pub returns-then-place-cells : goal.returns-then-place-cells
returns-then-place-cells c =
    let a = c.args in
    part-put a.cells.now a.i c.copy_from_slice.new.self
    ∙ ap (with_block a.cells.now a.i) c.copy_from_slice.ensures.after
    ∙ held-put a.cells.now a.i a.block c.if-place-cells.true

pub returns-else-place-cells : goal.returns-else-place-cells
returns-else-place-cells c = let a = c.args in no-put a.cells.now a.i a.block c.if-place-cells.false
