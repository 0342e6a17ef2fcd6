-- Parts put together: the items of a list from its first on, and values placed one after the other. Assumes nothing.
use Prim.Native.Nat.{ℕ, zero, suc, ◌+◌}
use mathlib.Core.Path.{◌≡◌, refl, ap, sym, ◌∙◌}
use mathlib.Core.List.{List, [], ◌∷◌}
use native.Mathlib.Nat.{add-zero, zero-add, add-suc, suc-add}
use native.Mathlib.Numerals.{unary_clauses}
use lib.ListN.{length, get_or, set}
use Rattle.std.proofs.Common.{add-one}
use Rattle.header_parts.specs.Parts.{items, placed}

-- all the items of a list are the list
module _ {A : Type 0} (d : A) where
  items-next : (k n : ℕ) (x : A) (l : List A) → items d (suc k) n (x ∷ l) ≡ items d k n l
  items-next k zero x l = refl
  items-next k (suc n) x l = ap (λ (r : List A). get_or l k d ∷ r) (items-next (suc k) n x l)

  all-items : (l : List A) → items d 0 (length l) l ≡ l
  all-items [] = refl
  all-items (x ∷ l) = ap (λ (r : List A). x ∷ r) (items-next 0 (length l) x l ∙ all-items l)

  pub whole : (n : ℕ) (l : List A) → length l ≡ n → items d 0 n l ≡ l
  whole n l e = ap (λ (m : ℕ). items d 0 m l) (sym e) ∙ all-items l

-- eight items, each named by how far it is from the first
pub eight : {A : Type 0} (d : A) (k : ℕ) (l : List A)
    → items d k 8 l
    ≡ get_or l k d ∷ get_or l (k + 1) d ∷ get_or l (k + 2) d ∷ get_or l (k + 3) d ∷ get_or l (k + 4) d ∷ get_or l (k + 5) d
    ∷ get_or l (k + 6) d ∷ get_or l (k + 7) d ∷ []
eight d k l = simp unary_clauses

-- a part that is placed after those before it
pub then-placed : (at : ℕ) (p : List ℕ) {c b d : List ℕ} → c ≡ placed 0 8 at p b → b ≡ d → c ≡ placed 0 8 at p d
then-placed at p e q = e ∙ ap (placed 0 8 at p) q

-- one value more is placed after the others
placed-more : (k n at : ℕ) (p v : List ℕ) → placed k (suc n) at p v ≡ set (placed k n at p v) (at + (k + n)) (get_or p (k + n) 0)
placed-more k zero at p v = ap (λ (i : ℕ). set v (at + i) (get_or p i 0)) (sym (add-zero k))
placed-more k (suc n) at p v =
    placed-more (suc k) n at p (set v (at + k) (get_or p k 0))
    ∙ ap (λ (i : ℕ). set (placed k (suc n) at p v) (at + i) (get_or p i 0)) (suc-add k n ∙ sym (add-suc k n))

pub placed-next : (n at : ℕ) (p v : List ℕ) → placed 0 (n + 1) at p v ≡ set (placed 0 n at p v) (at + n) (get_or p n 0)
placed-next n at p v =
    ap (λ (m : ℕ). placed 0 m at p v) (add-one n) ∙ placed-more 0 n at p v
    ∙ ap (λ (i : ℕ). set (placed 0 n at p v) (at + i) (get_or p i 0)) (zero-add n)
