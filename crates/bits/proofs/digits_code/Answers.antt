-- The loop over the digits from the least significant on. What its code becomes is a code of one digit more, so every step fits.
use Prim.Native.Nat.{ℕ, ◌+◌, ◌*◌, ◌/◌, ◌%◌}
use mathlib.Core.Path.{◌≡◌, refl, sym, ap, ◌∙◌}
use native.Mathlib.Nat.{div-one}
use native.Mathlib.Omega.{arith}
use Rattle.bits.specs.Decimal.{coded}
use Rattle.bits.proofs.Decimal.{coded_more, coded-small, place-small, sixteen-more, ten-less}
use Rattle.bits.proofs.digits_code.Goals as goal
use Rattle.bits.proofs.digits_code.Goals.{In-loop}

step : (c : In-loop) → c.loop.code + c.loop.rest % 10 * c.loop.place ≡ coded (c.loop.counter + 1) c.args.value
step c =
    let now = c.loop.invariant in
    (λ i. now.so_far i + now.left i % 10 * now.next i) ∙ coded_more c.loop.counter c.args.value

pub loop-init : goal.loop-init
unfolding coded
loop-init c = record { so_far = refl; left = sym (div-one c.args.value); next = refl }

pub overflow_mul-code : goal.overflow_mul-code
overflow_mul-code c = omega (arith, step c, coded-small (c.loop.counter + 1) c.args.value (omega arith))

pub overflow_add-code : goal.overflow_add-code
overflow_add-code c = omega (arith, step c, coded-small (c.loop.counter + 1) c.args.value (omega arith))

pub overflow_mul-place : goal.overflow_mul-place
overflow_mul-place c = omega (arith, c.loop.invariant.next, sixteen-more c.loop.counter, place-small (c.loop.counter + 1) (omega arith))

pub loop-preserved : goal.loop-preserved
loop-preserved c =
    let now = c.loop.invariant in
    record {
      so_far = step c;
      left = ap (λ (z : ℕ). z / 10) now.left ∙ ten-less c.args.value c.loop.counter;
      next = ap (λ (z : ℕ). z * 16) now.next ∙ sixteen-more c.loop.counter;
    }
