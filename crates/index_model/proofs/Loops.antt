-- A test that runs over the first m of something, each joined to those before it by "and", holds exactly when it holds of each.
-- Assumes nothing.
use Prim.Native.Nat.{ℕ, zero, suc, ◌<◌}
use mathlib.Core.Path.{◌≡◌, ap, sym, ◌∙◌}
use mathlib.Core.Bool.{Bool, true, ◌&&◌}
use mathlib.Core.Logic.{⊎_elim}
use native.Mathlib.Omega.{arith}
use Rattle.lists.proofs.Order.{le-or-lt}
use Rattle.lists.proofs.Truth.{left, right, held, holds}

-- two tests that both hold
pub both_true : (a b : Bool) → a && b ≡ true → (a ≡ true) × (b ≡ true)
both_true a b e = (holds a (left a b (held (a && b) e)), holds b (right a b (held (a && b) e)))

module _ (all one : ℕ → Bool) (more : (i : ℕ) → all (suc i) ≡ all i && one i) where
  pub each_of : (m : ℕ) → all m ≡ true → (i : ℕ) → i < m → one i ≡ true
  each_of zero e i h = absurd (let z : ⊥ = omega arith in z)
  each_of (suc m) e i h =
      let both = both_true (all m) (one m) (sym (more m) ∙ e) in
      ⊎_elim (λ p. ap one (let z : i ≡ m = omega arith in z) ∙ both.1) (λ p. each_of m both.0 i p) (le-or-lt m i)

  pub all_of : all 0 ≡ true → (m : ℕ) → ((i : ℕ) → i < m → one i ≡ true) → all m ≡ true
  all_of none zero h = none
  all_of none (suc m) h = more m ∙ (λ t. all_of none m (λ i p. h i (omega arith)) t && h m (omega arith) t)
