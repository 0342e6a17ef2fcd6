-- Each division by ten takes a digit away; a number of no more digits than were taken is then 0.
use Prim.Native.Nat.{ℕ, ◌/◌, ◌^◌}
use mathlib.Core.Path.{◌≡◌, sym, ap, ◌∙◌}
use native.Mathlib.Nat.{div-one}
use native.Mathlib.Omega.{arith}
use lib.Dec.{eqb}
use Rattle.bits.proofs.Decimal.{ten-less, none_left}
use Rattle.bits.proofs.fits_digits.Goals as goal

pub loop-init : goal.loop-init
loop-init c = sym (div-one c.args.value)

pub loop-preserved : goal.loop-preserved
loop-preserved c = ap (λ (z : ℕ). z / 10) c.loop.invariant ∙ ten-less c.args.value c.loop.counter

pub returns : goal.returns
returns c =
    let a = c.args in
    let done : c.loop.counter ≡ a.count = omega arith in
    ap (λ (z : ℕ). eqb z 0) (c.loop.invariant ∙ ap (λ (z : ℕ). a.value / 10 ^ z) done) ∙ none_left a.value a.count
