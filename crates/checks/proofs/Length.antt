-- A length in bytes against a length in words, without a product. Assumes nothing.
use Prim.Native.Nat.{ℕ, ◌*◌, ◌/◌, ◌%◌}
use mathlib.Core.Path.{◌≡◌, refl, ap, sym}
use mathlib.Core.Bool.{Bool, true, false, not, ◌||◌}
use native.Mathlib.Omega.{arith}
use lib.Dec.{eqb}
use borrow.Author.Tests.{eq-eqb, ne_eqb, eqb-true, eqb-false}

pub halves : (n w : ℕ) → not (eqb (n % 2) 0) || not (eqb (n / 2) w) ≡ not (eqb n (2 * w))
halves n w = by_tests (eqb (n % 2) 0) (eqb (n / 2) w) refl refl
  where
    by_tests : (a b : Bool) → eqb (n % 2) 0 ≡ a → eqb (n / 2) w ≡ b → not a || not b ≡ not (eqb n (2 * w))
    by_tests true true p q = sym (ap not (eq-eqb n (2 * w) (omega (arith, eqb-true (n % 2) 0 p, eqb-true (n / 2) w q))))
    by_tests true false p q = sym (ap not (ne_eqb n (2 * w) (λ e. eqb-false (n / 2) w q (omega arith))))
    by_tests false b p q = sym (ap not (ne_eqb n (2 * w) (λ e. eqb-false (n % 2) 0 p (omega arith))))
