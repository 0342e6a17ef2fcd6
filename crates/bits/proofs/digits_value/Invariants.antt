-- The loop over the digits from the most significant on: the invariant says what the digits so far give.
use Rattle.bits.specs.Decimal.{decimal_value}
use mathlib.Core.Path.{◌≡◌}
use Prim.Native.Nat.{◌-◌, ◌*◌, ◌^◌, ◌/◌}
use Rattle.bits.proofs.digits_value.Given as goal

abbrev pub invariant-loop-k : goal.invariant-loop-k
invariant-loop-k l = l.value ≡ decimal_value (l.fn.count.digits - l.k) (l.code / 2 ^ (4 * l.k))
