use mathlib.Core.Path.{◌∙◌}
use mir.Facts.{to_z-of_z}
use mir.Syntax.{w64}
use Rattle.listing.proofs.read_columns.Goals as goal

pub returns : goal.returns
returns c =
    let first = to_z-of_z {w = w64} (record { sfits = c.first_sample_time.type_inv }) ∙ c.first_sample_time.ensures in
    let rate = to_z-of_z {w = w64} (record { sfits = c.frequency_rate_of.type_inv }) ∙ c.frequency_rate_of.ensures in
    (λ i.
    record {
      number = c.read_field.ensures i;
      first_us = first i;
      origin = c.read_field-2.ensures i;
      frequency_uhz = c.read_field-3.ensures i;
      frequency_rate_units = rate i;
    })
