-- The loop that stores the bytes of a number, the last first: the invariant is `Stored`, and the part of the number that is left.
use mathlib.Core.Path.{◌≡◌}
use Prim.Native.Nat.{◌-◌, ◌*◌, ◌/◌, ◌^◌}
use Rattle.bits.specs.Steps.{Stored}
use Rattle.bits.proofs.store.Given as goal

abbrev pub invariant-loop-k : goal.invariant-loop-k
invariant-loop-k l = (l.rest ≡ l.x / 2 ^ (8 * (l.n - l.k))) × Stored l.from l.n l.x l.k l.initial.bytes l.bytes
