use mathlib.Core.Path.{ap}
use mir.Facts.{to_z-of_z}
use Rattle.text.specs.Text.{rate_column}
use Rattle.numbers.proofs.Writing.{written_both}
use Rattle.text.proofs.write_rate.Goals as goal

-- the rate comes to the callee as it is read of its bits
pub returns : goal.returns
returns c = written_both (ap rate_column (to_z-of_z c.ranges.units)) c.write_signed_fixed-end.ensures c.write_byte.ensures
