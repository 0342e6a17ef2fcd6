-- An array's `map` over four elements: a closure that its calls leave as it was may be called at each. Assumes nothing.
use Prim.Native.Nat.{ℕ, zero, suc, ◌<◌}
use mathlib.Core.Path.{◌≡◌, refl, sym, ◌∙◌, subst}
use mathlib.Core.List.{List, [], ◌∷◌}
use native.Mathlib.Omega.{arith}
use lib.ListN.{length, get_or}
use Rattle.std.specs.Iterator.{Yields, CallableAtEachTurn}
use Rattle.std.specs.Array.{list_steps}
use Rattle.std.proofs.lemmas.Fn.{serves_by}

by-place : (P : ℕ → Type 0) → P 0 → P 1 → P 2 → P 3 → (k : ℕ) → k < 4 → P k
by-place P a b c d zero h = a
by-place P a b c d (suc zero) h = b
by-place P a b c d (suc (suc zero)) h = c
by-place P a b c d (suc (suc (suc zero))) h = d
by-place P a b c d (suc (suc (suc (suc k)))) h = absurd (omega (arith, h))

module _ {A : Type 0} (Good : A → Type 0) (d : A) where
  abbrev Each : List A → Type 0
  Each all = (k : ℕ) → k < length all → Good (get_or all k d)

  -- what holds of every element holds of the next
  next : (all xs : List A) (t : List A) (x : A) (u : List A) → Each all → Yields list_steps all xs t → t ≡ x ∷ u → Good x
  next all [] t x u h y e = subst Each (y ∙ e) h 0 (omega arith)
  next all (z ∷ xs) t x u h y e = next y.0 xs t x u (λ k l. subst Each y.1 h (suc k) (omega (arith, l))) y.2 e

  pub four_callable : {F : Type 0} {R : F → A → F → Type 0} {Q : F → A → Type 0} (all : List A) (f : F) → length all ≡ 4
      → Good (get_or all 0 d) → Good (get_or all 1 d) → Good (get_or all 2 d) → Good (get_or all 3 d)
      → ((x : A) (g : F) → R f x g → g ≡ f) → ((x : A) → Good x → Q f x) → CallableAtEachTurn list_steps R Q all f
  four_callable {F} {R} {Q} all f n p q r s kept may =
      serves_by R (λ xs g. g ≡ f) (λ xs g x k same call. kept x k (subst (λ (i : F). R i x k) same call)) list_steps Q all f refl
      (λ xs t g x u y e same. subst (λ (i : F). Q i x) (sym same)
      (may x (next all xs t x u (λ k l. by-place (λ (i : ℕ). Good (get_or all i d)) p q r s k (omega (arith, l, n))) y e)))
