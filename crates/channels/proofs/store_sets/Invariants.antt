use Prim.Native.Nat.{◌*◌}
use Rattle.channels.proofs.Interleave.{Bytes}
use Rattle.channels.proofs.store_sets.Given as goal

abbrev pub invariant-loop-k : goal.invariant-loop-k
invariant-loop-k l = Bytes l.one l.two l.three l.four l.initial.stretch (4 * l.k) l.stretch
