use native.Mathlib.Omega.{arith}
use borrow.Author.Rules.{rules}
use Rattle.lists.proofs.Fill.{filled_more, filled_at}
use Rattle.channels.proofs.copy_channel.Goals as goal

-- search finds it too, but of a false step it says no more than that it gave up
pub loop-k-preserved : goal.loop-k-preserved
loop-k-preserved c = filled_more _ (omega arith) (search rules) c.loop-k.invariant

pub returns : goal.returns
returns c = filled_at (omega arith) (omega arith) c.loop-k.invariant
