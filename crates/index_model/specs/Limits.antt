-- What 13 and 14 leave of an opening's value and of the lent buffers. FORMAT, "Refusal numbers". Only the library's own
-- functions cite this.
use Rattle.std.specs.Prelude.{◌+◌, ◌*◌, ◌≤◌, length}
use Rattle.index_model.specs.declared.Opening.{Opening}
use Rattle.index_model.specs.Cells.{width}
use Rattle.index_model.specs.Buffers.{Buffers}
use Rattle.index_model.specs.Opening.{highest_limit, day_seconds}

pub record WithinLimits (o : Opening) (c : Buffers) : Type 0 where
  pub day : o.first_second + o.second_count ≤ day_seconds
  pub numbers : o.highest_number ≤ highest_limit
  pub rows_long : width * o.highest_number ≤ length c.rows
  pub seconds-long : width * o.second_count ≤ length c.seconds
