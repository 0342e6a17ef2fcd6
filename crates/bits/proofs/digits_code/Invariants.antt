-- The loop over the digits from the least significant on: the code of those so far, what is left, and the next digit's place.
use Prim.Native.Nat.{◌/◌, ◌^◌}
use mathlib.Core.Path.{◌≡◌}
use Rattle.bits.specs.Decimal.{coded}
use Rattle.bits.proofs.digits_code.Given as goal

abbrev pub invariant-loop : goal.invariant-loop
invariant-loop l =
    record {
      so_far : l.code ≡ coded l.counter l.value;
      left : l.rest ≡ l.value / 10 ^ l.counter;
      next : l.place ≡ 16 ^ l.counter;
    }
