-- Sums, and what a rule gives for each sample added up, as squares and clipped samples are: one list after another, and bounds.
-- Assumes nothing.
use Prim.Native.Nat.{ℕ, ◌+◌, ◌*◌, ◌≤◌}
use mathlib.Core.Path.{◌≡◌, sym, ap, ◌∙◌}
use mathlib.Core.Bool.{Bool, true, false, cond}
use mathlib.Core.List.{List, [], ◌∷◌, ◌++◌}
use native.Mathlib.Nat.{mul-suc}
use native.Mathlib.Omega.{arith}
use lib.IntN.{ℤ, nat_abs, ◌+ℤ◌, +ℤ_idl, +ℤ_assoc}
use lib.ListN.{length}
use mir.Syntax.{w8}
use mir.Val.{SFits}
use Rattle.totals.specs.Total.{sum_of, added_of, square_of, squares_of, is_clipped, clipped_one, clipped_of}
use Rattle.totals.proofs.Bits.{byte-abs, byte-square, abs-sum}
use Rattle.totals.proofs.Samples.{Bytes}

pub sum-append : (l m : List ℤ) → sum_of (l ++ m) ≡ sum_of l +ℤ sum_of m
unfolding sum_of
sum-append [] m = sym (+ℤ_idl (sum_of m))
sum-append (x ∷ l) m = ap (λ (z : ℤ). x +ℤ z) (sum-append l m) ∙ sym (+ℤ_assoc x (sum_of l) (sum_of m))

pub added-append : (rule : ℤ → ℕ) (l m : List ℤ) → added_of rule (l ++ m) ≡ added_of rule l + added_of rule m
unfolding added_of
added-append rule [] m = omega arith
added-append rule (x ∷ l) m = omega (arith, added-append rule l m)

-- one sample more, at the end of the list
pub added_more : (rule : ℤ → ℕ) (l : List ℤ) (x : ℤ) → added_of rule (l ++ x ∷ []) ≡ added_of rule l + rule x
unfolding added_of
added_more rule l x = omega (arith, added-append rule l (x ∷ []))

pub sum_bound : (l : List ℤ) → Bytes l → nat_abs (sum_of l) ≤ 128 * length l
unfolding sum_of
sum_bound [] h = omega arith
sum_bound (x ∷ l) h = omega (arith, abs-sum x (sum_of l), byte-abs h.0, sum_bound l h.1)

-- by the most that the rule gives for a signed byte
pub added-bound : (rule : ℤ → ℕ) (most : ℕ) → ((x : ℤ) → SFits w8 x → rule x ≤ most) → (l : List ℤ) → Bytes l
    → added_of rule l ≤ most * length l
unfolding added_of
added-bound rule most each [] h = omega arith
added-bound rule most each (x ∷ l) h =
    omega (arith, each x h.0, added-bound rule most each l h.1, mul-suc most (length l))

pub squares-bound : (l : List ℤ) → Bytes l → squares_of l ≤ 16384 * length l
squares-bound = added-bound square_of 16384 (λ x f. byte-square f)

pub one-most : (x : ℤ) → clipped_one x ≤ 1
one-most x = by-test (is_clipped x)
  where
    by-test : (t : Bool) → cond t 1 0 ≤ 1
    by-test true = omega arith
    by-test false = omega arith

pub clipped-bound : (l : List ℤ) → Bytes l → clipped_of l ≤ 1 * length l
clipped-bound = added-bound clipped_one 1 (λ x f. one-most x)
