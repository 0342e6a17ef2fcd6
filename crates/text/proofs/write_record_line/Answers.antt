-- Five columns, one behind the other. The two that may be below zero come to their writers as they are read of their bits.
use mathlib.Core.Path.{refl, ap}
use native.Mathlib.Omega.{arith}
use mir.Facts.{to_z-of_z}
use mir.Syntax.{w64}
use Rattle.text.specs.Text.{signed_column, rate_column, record_line}
use Rattle.numbers.proofs.Writing.{written_both, written_as}
use Rattle.text.proofs.write_record_line.Goals as goal

pub returns : goal.returns
unfolding record_line
returns c =
    written_both refl c.write_column-first_at.ensures
    (written_both refl
    (written_as (ap signed_column (to_z-of_z {w = w64} (record { sfits = omega arith }))) c.write_signed_column-origin_at.ensures)
    (written_both refl c.write_column-frequency_at.ensures
    (written_both refl c.write_frequency-rate_at.ensures
    (written_as (ap rate_column (to_z-of_z {w = w64} (record { sfits = omega arith }))) c.write_rate.ensures))))
