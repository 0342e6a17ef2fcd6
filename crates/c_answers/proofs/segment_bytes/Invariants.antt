use lib.ListN.{get_or}
use Rattle.lists.proofs.Fill.{Filled}
use Rattle.c_answers.proofs.segment_bytes.Given as goal

abbrev pub invariant-loop-k : goal.invariant-loop-k
invariant-loop-k l = Filled l.initial.bytes (λ j. get_or l.segment j 0) 0 l.k l.bytes
