use native.Mathlib.Omega.{arith}
use Rattle.index_model.specs.Cells.{merged}
use Rattle.index_cells.proofs.Parts.{all-filled}
use borrow.Author.Rules.{rules}
use Rattle.index_cells.proofs.merged_cells.Goals as goal

pub returns : goal.returns
unfolding merged
returns c = all-filled (omega arith) (search rules) c.loop-j.invariant.1
