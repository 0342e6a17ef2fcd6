use Rattle.index_model.specs.Cells.{is_greatest}
use borrow.Author.Rules.{rules}
use Rattle.index_cells.proofs.is_greatest.Goals as goal

pub returns : goal.returns
unfolding is_greatest
returns c = search rules
