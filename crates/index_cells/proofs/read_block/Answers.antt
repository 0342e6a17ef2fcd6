use mathlib.Core.Path.{refl, sym, ◌∙◌}
use native.Mathlib.Omega.{arith}
use Rattle.index_model.specs.Cells.{cell}
use Rattle.index_model.proofs.Blocks.{block-cells}
use Rattle.index_cells.proofs.Parts.{all-filled}
use borrow.Author.Rules.{rules}
use Rattle.index_cells.proofs.read_block.Goals as goal

pub returns : goal.returns
returns c =
    let a = c.args in
    all-filled (omega arith) (search rules) c.loop-j.invariant.1
    ∙ sym (block-cells a.cells.now a.i (search rules) (cell a.cells.now a.i) (λ j h. refl))
