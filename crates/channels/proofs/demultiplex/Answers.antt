use Rattle.std.proofs.Common.{arith}
use Rattle.lists.proofs.Fill.{over_none}
use Rattle.channels.proofs.demultiplex.Goals as goal

pub returns-then-channel : goal.returns-then-channel
returns-then-channel c = grind (arith, over_none)
