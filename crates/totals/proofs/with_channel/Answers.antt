use mir.Syntax.{w8}
use mir.Facts.{to_z-of_z}
use Rattle.totals.specs.Running.{channel_next}
use Rattle.totals.proofs.with_channel.Goals as goal

pub returns : goal.returns
unfolding channel_next
returns c = rw (
  c.with.ensures,
  to_z-of_z {w = w8} {z = c.sample.result} (record { sfits = c.sample.type_inv }),
  c.sample.ensures,
)
