-- Cells that are cleared, as a part of a buffer that is filled with 0. Assumes nothing.
use Prim.Native.Nat.{ℕ, zero, suc, ◌≤◌}
use mathlib.Core.Path.{◌≡◌, refl, ap, ◌∙◌}
use mathlib.Core.List.{List, ◌∷◌, ◌++◌}
use lib.ListN.{length, take, drop, replicate}
use Rattle.std.proofs.lemmas.List.{length-take-le}
use Rattle.lists.specs.Fill.{tab, over}

zeros : (k n : ℕ) → replicate {A = ℕ} n 0 ≡ tab (λ (j : ℕ). 0) k n
zeros k zero = refl
zeros k (suc n) = ap (λ (l : List ℕ). 0 ∷ l) (zeros (suc k) n)

pub cleared-part : (cells part : List ℕ) (n : ℕ) → n ≤ length cells → part ≡ replicate {A = ℕ} (length (take n cells)) 0
    → part ++ drop n cells ≡ over cells (λ k. 0) n
unfolding over
cleared-part cells part n h e =
    ap (λ (l : List ℕ). l ++ drop n cells) (e ∙ ap (λ (m : ℕ). replicate {A = ℕ} m 0) (length-take-le n cells h) ∙ zeros 0 n)
