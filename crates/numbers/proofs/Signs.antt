-- Numbers below zero and others: how far they are from zero, and their text. Assumes nothing.
use mathlib.Core.Path.{◌≡◌, ap, ◌∙◌}
use mathlib.Core.List.{List, ◌++◌}
use Prim.Native.Nat.{ℕ, suc, ◌+◌, ◌^◌, ◌≤◌, ◌<◌}
use native.Mathlib.Omega.{arith}
use lib.IntN.{ℤ, pos, negsuc, nat_abs}
use lib.ListN.{length}
use lib.Signed.{mag}
use mir.Facts.{to_z-of_z}
use mir.Syntax.{w64}
use mir.Val.{SFits, to_z, of_z}
use Rattle.lists.proofs.Range.{Between}
use Rattle.numbers.specs.Number.{minus, signed_decimal}
use Rattle.numbers.proofs.Decimal.{decimal-length}

-- a signed number comes to a callee, and to a test, as it is read of its bits
abbrev read_of : ℤ → ℤ
read_of z = to_z w64 (of_z w64 z)

-- how far a number of w bits can be from zero
pub nat_abs-mag : (z : ℤ) → nat_abs z ≤ mag z + 1
nat_abs-mag (pos a) = omega arith
nat_abs-mag (negsuc a) = omega arith

-- a minus and then digits, of the number as it is read of its bits
pub signed-text : (digits : ℕ → List ℕ) {z : ℤ} {n : ℕ} → SFits w64 z → n ≡ nat_abs (read_of z)
    → minus (read_of z) ++ digits n ≡ minus z ++ digits (nat_abs z)
signed-text digits {z} f e = (λ i. minus (to_z-of_z f i) ++ digits ((e ∙ ap nat_abs (to_z-of_z f)) i))

-- ## lengths

pub minus-length : (z : ℤ) → length (minus z) ≤ 1
minus-length (pos a) = omega arith
minus-length (negsuc a) = omega arith

-- a minus takes the place of a digit
pub signed-length : (d low high : ℕ) (z : ℤ) → 0 < d → low < 10 ^ d → high < 10 ^ (d + 1) → Between low high z
    → length (signed_decimal z) ≤ d + 1
unfolding signed_decimal
signed-length d low high (pos n) p l h b = decimal-length (d + 1) n (omega arith) (omega (arith, b))
signed-length d low high (negsuc n) p l h b = omega (arith, decimal-length d (suc n) p (omega (arith, b)))
