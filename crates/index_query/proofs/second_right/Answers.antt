use mathlib.Core.Path.{◌∙◌}
use Rattle.index_model.specs.Buffers.{lent}
use Rattle.index_query.proofs.Testing.{second-same}
use borrow.Author.Rules.{rules}
use Rattle.index_query.proofs.second_right.Goals as goal

pub returns : goal.returns
returns c =
    c.eq.ensures
    ∙ second-same c.args.o (lent c.args.rows.now c.args.seconds.now) c.args.k c.requires.1 c.requires.0 _ _ (search rules) (search rules) c.block.ensures c.second_cells.ensures
