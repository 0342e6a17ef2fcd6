-- The loop over the bytes of a window: the invariant says the number made so far.
use mathlib.Core.Path.{◌≡◌}
use Prim.Native.Nat.{◌*◌}
use Rattle.bits.specs.Bits.{get_bits}
use Rattle.bits.proofs.window.Given as goal

abbrev pub invariant-loop-k : goal.invariant-loop-k
invariant-loop-k l = l.x ≡ get_bits (8 * l.from) (8 * l.k) l.bytes
