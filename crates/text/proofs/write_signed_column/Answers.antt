use mathlib.Core.Path.{ap}
use mir.Facts.{to_z-of_z}
use Rattle.text.specs.Text.{signed_column}
use Rattle.numbers.proofs.Writing.{written_both}
use Rattle.text.proofs.write_signed_column.Goals as goal

-- the number comes to the callee as it is read of its bits
pub returns : goal.returns
returns c = written_both (ap signed_column (to_z-of_z c.ranges.z)) c.write_signed_decimal-comma_at.ensures c.write_byte.ensures
