use mathlib.Core.Path.{◌∙◌}
use Rattle.index_cells.proofs.Parts.{held-block, no_block}
use Rattle.index_cells.proofs.block.Goals as goal

pub returns-then-place-cells : goal.returns-then-place-cells
returns-then-place-cells c = c.read_block.ensures ∙ held-block _ _ c.if-place-cells.true

pub returns : goal.returns
returns c = no_block _ _ c.if-place-cells.false
