-- The modulus is no product of two numbers up to 510, so a difference of check sums that is such a product and below twice the
-- modulus is no multiple of it. Assumes nothing.
use Prim.Native.Nat.{ℕ, zero, suc, ◌+◌, ◌-◌, ◌*◌, ◌%◌, ◌≤◌, ◌<◌}
use mathlib.Core.Path.{◌≡◌, ap, sym, ◌∙◌}
use mathlib.Core.Bool.{Bool}
use mathlib.Core.Logic.{⊎_elim}
use native.Mathlib.Nat.{mul-mod_right, zero-mul, one-mul, add-mul, mul-le-mul, mul-pos, pos_of_ne-zero}
use native.Mathlib.Omega.{arith}
use lib.Dec.{T, ltb}
use borrow.Author.Tests.{ltb-true}
use Rattle.lists.proofs.Order.{le-or-lt}
use Rattle.lists.proofs.Truth.{holds}
use Rattle.lists.specs.Tests.{all_to}
use Rattle.lists.proofs.Tests.{each_to}
use Rattle.block_check.specs.Check.{modulus, covered}

-- 2 + k does not divide the modulus
leaves : ℕ → Bool
leaves k = ltb 0 (modulus % suc (suc k))

-- none of 2 to 510 does: one test, computed
none-divides : T (all_to leaves (covered - 1))
unfolding leaves all_to
none-divides = tt

remainder : (k : ℕ) → k < covered - 1 → 0 < modulus % suc (suc k)
unfolding leaves
remainder k h = ltb-true 0 (modulus % suc (suc k)) (holds (leaves k) (each_to leaves (covered - 1) k h none-divides))

pub no-product : (d p : ℕ) → d ≤ covered → p ≤ covered → d * p ≡ modulus → ⊥
no-product zero p h q e = omega (arith, e, zero-mul p)
no-product (suc zero) p h q e = omega (arith, e, one-mul p)
no-product (suc (suc k)) p h q e =
    let r : modulus % suc (suc k) ≡ 0 = ap (λ (x : ℕ). x % suc (suc k)) (sym e) ∙ mul-mod_right (suc (suc k)) p in
    omega (arith, r, remainder k (omega arith))

-- two sums that differ by such a product have not the same remainder
apart : (a b d p : ℕ) → 0 < d → d < 256 → 0 < p → p ≤ covered → a ≡ b + d * p → a % modulus ≡ b % modulus → ⊥
apart a b d p ld hd lp hp e same =
    let small : d * p ≤ 255 * covered = mul-le-mul (let h : d ≤ 255 = omega arith in h) hp in
    let some : 0 < d * p = mul-pos ld lp in
    no-product d p (omega arith) hp (omega (arith, e, same, small, some))

-- a sum in which a byte x, or v in its place, counts p times
pub differ : (a a' x v p : ℕ) → x < 256 → v < 256 → (v ≡ x → ⊥) → 0 < p → p ≤ covered → a' + x * p ≡ a + v * p
    → a % modulus ≡ a' % modulus → ⊥
differ a a' x v p hx hv ne lp hp e same = ⊎_elim less more (le-or-lt v x)
  where
    less : v ≤ x → ⊥
    less h =
        let d : ℕ = x - v in
        let s : x * p ≡ v * p + d * p = ap (λ (y : ℕ). y * p) (let q : x ≡ v + d = omega arith in q) ∙ add-mul v d p in
        apart a a' d p (pos_of_ne-zero (λ z. ne (omega (arith, z)))) (omega arith) lp hp (omega (arith, e, s)) same

    more : x < v → ⊥
    more h =
        let d : ℕ = v - x in
        let s : v * p ≡ x * p + d * p = ap (λ (y : ℕ). y * p) (let q : v ≡ x + d = omega arith in q) ∙ add-mul x d p in
        apart a' a d p (omega arith) (omega arith) lp hp (omega (arith, e, s)) (sym same)
