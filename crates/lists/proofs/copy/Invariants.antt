use lib.ListN.{get_or}
use Rattle.lists.proofs.Fill.{Filled}
use Rattle.lists.proofs.copy.Given as goal

abbrev pub invariant-loop-k : goal.invariant-loop-k
invariant-loop-k l = Filled l.initial.to (λ j. get_or l.from j 0) 0 l.k l.to
