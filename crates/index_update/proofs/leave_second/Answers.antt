use mathlib.Core.Path.{sym, ◌∙◌}
use Rattle.index_model.specs.Calls.{leave}
use Rattle.index_cells.specs.Blocks.{block_put}
use Rattle.index_update.proofs.Changing.{second-left}
use Rattle.index_update.proofs.leave_second.Goals as goal

pub returns-then-is_left : goal.returns-then-is_left
returns-then-is_left c =
    let w = c.wide-second in
    c.put_block.ensures
    ∙ (λ t. block_put c.args.seconds.now (c.window_place.ensures t) (c.second_cells-cells.ensures t))
    ∙ second-left c.args.o c.args.rows.now c.args.held w.result c.args.seconds.now c.requires
    (sym c.is_left.ensures ∙ c.if-is_left.true)
    ∙ (λ t. leave c.args.o c.args.rows.now c.args.held (w.ensures.0 t) c.args.seconds.now)
