-- A test at each of the first n numbers, taken apart and put together, and the first at which it does not hold. Assumes nothing.
use Prim.Native.Nat.{ℕ, zero, suc, ◌+◌, ◌≤◌, ◌<◌}
use mathlib.Core.Path.{◌≡◌, refl, ap, sym, ◌∙◌, subst}
use mathlib.Core.Bool.{Bool, true, false, cond, ◌&&◌, true≢false}
use mathlib.Core.Logic.{⊎_elim}
use native.Mathlib.Numerals.{add-one}
use native.Mathlib.Omega.{arith}
use lib.Dec.{T, eqb}
use borrow.Author.Tests.{eq-eqb, ne_eqb}
use Rattle.lists.specs.Tests.{all_to, first_not}
use Rattle.lists.proofs.Order.{le-or-lt}
use Rattle.lists.proofs.Truth.{left, right, both, held, holds}

module _ (test : ℕ → Bool) where
  pub each_to : (n k : ℕ) → k < n → T (all_to test n) → T (test k)
  unfolding all_to
  each_to zero k h t = absurd (let z : ⊥ = omega arith in z)
  each_to (suc n) k h t =
      ⊎_elim
      (λ p. each_to n k p (left (all_to test n) (test n) t))
      (λ p. subst (λ (j : ℕ). T (test j)) (let e : n ≡ k = omega arith in e) (right (all_to test n) (test n) t))
      (le-or-lt (suc k) n)

  pub all-to : (n : ℕ) → ((k : ℕ) → k < n → T (test k)) → T (all_to test n)
  unfolding all_to
  all-to zero h = tt
  all-to (suc n) h = both (all_to test n) (test n) (all-to n (λ k p. h k (omega arith))) (h n (omega arith))

  -- one more, as a loop counts
  pub all_more : (n : ℕ) → all_to test n && test n ≡ all_to test (n + 1)
  unfolding all_to
  all_more n = ap (all_to test) (sym (add-one n))

-- the first number at which a test does not hold: none before it
pub first-at : (test : ℕ → Bool) (n i : ℕ) → i < n → ((k : ℕ) → k < i → T (test k)) → test i ≡ false → first_not test n ≡ i
unfolding first_not
first-at test zero i h before fails = absurd (let z : ⊥ = omega arith in z)
first-at test (suc n) zero h before fails = ap (λ (t : Bool). cond t (suc (first_not (λ k. test (suc k)) n)) 0) fails
first-at test (suc n) (suc i) h before fails =
    ap (λ (t : Bool). cond t (suc (first_not (λ k. test (suc k)) n)) 0) (holds (test 0) (before 0 (omega arith)))
    ∙ ap suc (first-at (λ k. test (suc k)) n i (omega arith) (λ k p. before (suc k) (omega arith)) fails)

-- and none at all
pub first-none : (test : ℕ → Bool) (n : ℕ) → ((k : ℕ) → k < n → T (test k)) → first_not test n ≡ n
unfolding first_not
first-none test zero before = refl
first-none test (suc n) before =
    ap (λ (t : Bool). cond t (suc (first_not (λ k. test (suc k)) n)) 0) (holds (test 0) (before 0 (omega arith)))
    ∙ ap suc (first-none (λ k. test (suc k)) n (λ k p. before (suc k) (omega arith)))

-- what is known of it, whatever the test
pub record FirstNot (test : ℕ → Bool) (n i : ℕ) : Type 0 where
  pub most : i ≤ n
  pub before : (k : ℕ) → k < i → T (test k)
  pub fails : i < n → test i ≡ false

pub first-not : (test : ℕ → Bool) (n : ℕ) → FirstNot test n (first_not test n)
unfolding first_not
first-not test zero =
    record { most = omega arith; before = λ k p. absurd (let z : ⊥ = omega arith in z); fails = λ p. absurd (let z : ⊥ = omega arith in z) }
first-not test (suc n) = by-test (test 0) refl (first-not (λ k. test (suc k)) n)
  where
    rest : ℕ
    rest = first_not (λ k. test (suc k)) n

    by-test : (t : Bool) → test 0 ≡ t → FirstNot (λ k. test (suc k)) n rest → FirstNot test (suc n) (cond t (suc rest) 0)
    by-test true e r =
        record {
          most = omega (arith, r.most);
          before = λ k p. each k p;
          fails = λ p. r.fails (omega arith);
        }
      where
        each : (k : ℕ) → k < suc rest → T (test k)
        each zero p = held (test 0) e
        each (suc k) p = r.before k (omega arith)
    by-test false e r = record { most = omega arith; before = λ k p. absurd (let z : ⊥ = omega arith in z); fails = λ p. e }

-- it is n exactly where the test holds at each
pub first-all : (test : ℕ → Bool) (n : ℕ) → eqb (first_not test n) n ≡ all_to test n
first-all test n = by-test (all_to test n) refl
  where
    by-test : (t : Bool) → all_to test n ≡ t → eqb (first_not test n) n ≡ t
    by-test true e = eq-eqb (first_not test n) n (first-none test n (λ k h. each_to test n k h (held (all_to test n) e)))
    by-test false e =
        ne_eqb (first_not test n) n
        (λ z.
        true≢false
        (sym (holds (all_to test n) (all-to test n (λ k h. (first-not test n).before k (omega (arith, z))))) ∙ e))
