use mathlib.Core.Path.{◌∙◌}
use Rattle.index_model.specs.Cells.{merged}
use Rattle.index_cells.specs.Blocks.{block_put}
use Rattle.index_update.proofs.Changing.{second-joined}
use Rattle.index_update.proofs.join_second.Goals as goal

pub returns : goal.returns
returns c =
    c.put_block.ensures
    ∙ (λ t. block_put c.args.seconds.now c.args.place
    ((c.merged_cells.ensures ∙ (λ u. merged (c.block-cells.ensures u) c.args.row)) t))
    ∙ second-joined c.args.seconds.now c.args.place c.args.row c.requires
