-- The loop over the digits from the most significant on: the invariant says what the digits so far give.
use Rattle.bits.proofs.Decimal.{digits-none, digits_more, digits-whole, decimal-small}
use mathlib.Core.Path.{refl, ◌∙◌}
use Prim.Native.Nat.{◌-◌, ◌*◌, ◌^◌, ◌/◌, ◌%◌, ◌+◌}
use native.Mathlib.Omega.{arith}
use Rattle.bits.proofs.digits_value.Goals as goal

pub loop-k-init : goal.loop-k-init
loop-k-init c =
    let a = c.args in
    digits-none a.count.digits a.count.digits (a.code / 2 ^ (4 * a.count.digits)) refl

pub overflow_mul-value : goal.overflow_mul-value
overflow_mul-value c =
    let a = c.args in
    omega (arith, decimal-small (a.count.digits - c.loop-k.k) (a.code / 2 ^ (4 * c.loop-k.k)) (omega arith))

pub overflow_add-value : goal.overflow_add-value
overflow_add-value c =
    let a = c.args in
    omega (arith, decimal-small (a.count.digits - c.loop-k.k) (a.code / 2 ^ (4 * c.loop-k.k)) (omega arith))

pub loop-k-preserved : goal.loop-k-preserved
loop-k-preserved c =
    let a = c.args in
    (λ i. c.loop-k.invariant i * 10 + a.code / c.two_to.ensures.0 i % 16)
    ∙ digits_more a.count.digits c.loop-k.k a.code (omega arith) (omega arith)

pub returns : goal.returns
returns c =
    let a = c.args in
    c.loop-k.invariant ∙ digits-whole a.count.digits c.loop-k.k a.code (omega arith)
