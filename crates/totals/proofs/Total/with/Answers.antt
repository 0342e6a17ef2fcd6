use Rattle.std.proofs.Common.{arith}
use Rattle.std.proofs.lemmas.Int.{ints, to_z-of_z}
use Rattle.totals.specs.Running.{next_of}
use Rattle.totals.proofs.Extremes.{lesser-min, greater-max}
use Rattle.totals.proofs.Total.with.Goals as goal

pub returns : goal.returns
unfolding next_of
returns c = grind (arith, ints, to_z-of_z, lesser-min, greater-max)
