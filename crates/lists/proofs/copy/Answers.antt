use mathlib.Core.Path.{refl}
use native.Mathlib.Omega.{arith}
use lib.ListN.{get_or}
use Rattle.lists.proofs.Fill.{filled_more, filled_at}
use Rattle.lists.proofs.copy.Goals as goal

pub loop-k-preserved : goal.loop-k-preserved
loop-k-preserved c = filled_more (get_or c.args.from.now c.loop-k.k 0) (omega arith) refl c.loop-k.invariant

pub returns : goal.returns
returns c = filled_at {d = 0} (omega arith) (omega arith) c.loop-k.invariant
