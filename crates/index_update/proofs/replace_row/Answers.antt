use mathlib.Core.Path.{◌∙◌}
use Rattle.index_model.specs.Calls.{leave}
use Rattle.index_cells.proofs.Held.{block-put}
use Rattle.index_update.proofs.replace_row.Goals as goal

pub returns : goal.returns
returns c =
    let rows = c.put_block.ensures
    ∙ block-put c.args.rows.now c.args.o.highest_number c.args.i c.requires.0.rows_long c.requires.1
    c.args.row in record {
      rows_after = rows;
      seconds_after = c.leave_second.ensures
          ∙ (λ t. leave c.args.o (rows t) (c.read_cell-held.ensures t) (c.read_cell-old.ensures t) c.args.seconds.now);
    }
