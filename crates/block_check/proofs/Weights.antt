-- The weighted sum of a block's bytes: where one of them is replaced, of lists with the same bytes, and past the last byte. Assumes
-- nothing.
use Prim.Native.Nat.{ℕ, zero, suc, ◌+◌, ◌*◌, ◌≤◌, ◌<◌, min}
use mathlib.Core.Path.{◌≡◌, refl, ap, sym, ◌∙◌}
use mathlib.Core.List.{List}
use mathlib.Core.Logic.{⊎_elim}
use native.Mathlib.Nat.{zero-mul}
use native.Mathlib.Numerals.{add-one}
use native.Mathlib.Omega.{arith}
use lib.ListN.{get_or, length, set, take, get_or-eq_default}
use lib.Seq.{get_or-set_same, get_or-set_other}
use Rattle.std.proofs.lemmas.List.{get_or-take}
use Rattle.lists.proofs.Order.{le-or-lt}
use Rattle.block_check.specs.Check.{weighted}

-- past the bytes that are added up
pub weighted-kept : (b : List ℕ) (i v n : ℕ) → n ≤ i → weighted (set b i v) n ≡ weighted b n
unfolding weighted
weighted-kept b i v zero h = refl
weighted-kept b i v (suc n) h =
    λ t. weighted-kept b i v n (omega arith) t + get_or-set_other b i n v 0 (λ z. omega (arith, z)) t * suc n

-- among them
pub weighted-set : (b : List ℕ) (i v n : ℕ) → i < n → i < length b
    → weighted (set b i v) n + get_or b i 0 * suc i ≡ weighted b n + v * suc i
unfolding weighted
weighted-set b i v zero h l = absurd (let z : ⊥ = omega arith in z)
weighted-set b i v (suc n) h l = ⊎_elim (λ q. before q (weighted-set b i v n q l)) last (le-or-lt (suc i) n)
  where
    before : i < n → weighted (set b i v) n + get_or b i 0 * suc i ≡ weighted b n + v * suc i
        → weighted (set b i v) (suc n) + get_or b i 0 * suc i ≡ weighted b (suc n) + v * suc i
    before q so_far =
        let same : get_or (set b i v) n 0 * suc n ≡ get_or b n 0 * suc n =
        ap (λ (x : ℕ). x * suc n) (get_or-set_other b i n v 0 (λ z. omega (arith, z))) in
        omega (arith, same, so_far)

    last : n < suc i → weighted (set b i v) (suc n) + get_or b i 0 * suc i ≡ weighted b (suc n) + v * suc i
    last q =
        let e : n ≡ i = omega arith in
        let now : get_or (set b i v) n 0 * suc n ≡ v * suc i =
        (λ t. get_or (set b i v) (e t) 0 * suc (e t)) ∙ ap (λ (x : ℕ). x * suc i) (get_or-set_same b i v 0 l) in
        let was : get_or b n 0 * suc n ≡ get_or b i 0 * suc i = λ t. get_or b (e t) 0 * suc (e t) in
        omega (arith, now, was, weighted-kept b i v n (omega arith))

-- lists with the same first n bytes
pub weighted-same : (a b : List ℕ) (n : ℕ) → ((k : ℕ) → k < n → get_or a k 0 ≡ get_or b k 0) → weighted a n ≡ weighted b n
unfolding weighted
weighted-same a b zero h = refl
weighted-same a b (suc n) h = λ t. weighted-same a b n (λ k p. h k (omega arith)) t + h n (omega arith) t * suc n

pub weighted_taken : (b : List ℕ) (n : ℕ) → weighted (take n b) n ≡ weighted b n
weighted_taken b n = weighted-same (take n b) b n (λ k h. get_or-take n b k 0 h)

-- one byte more, as a loop counts
pub weighted_more : (b : List ℕ) (k : ℕ) → weighted b (k + 1) ≡ weighted b k + get_or b k 0 * (k + 1)
unfolding weighted
weighted_more b k = ap (weighted b) (add-one k) ∙ ap (λ (p : ℕ). weighted b k + get_or b k 0 * p) (sym (add-one k))

-- past the last byte nothing is added
weighted-past : (b : List ℕ) (n : ℕ) → length b ≤ n → weighted b n ≡ weighted b (length b)
unfolding weighted
weighted-past b zero h = ap (weighted b) (let e : 0 ≡ length b = omega arith in e)
weighted-past b (suc n) h =
    ⊎_elim
    (λ p.
    let none : get_or b n 0 * suc n ≡ 0 = ap (λ (x : ℕ). x * suc n) (get_or-eq_default b 0 {n = n} p) ∙ zero-mul (suc n) in
    omega (arith, none, weighted-past b n p))
    (λ p. ap (weighted b) (let e : suc n ≡ length b = omega arith in e))
    (le-or-lt (length b) n)

pub weighted-clipped : (b : List ℕ) (n : ℕ) → weighted b n ≡ weighted b (min n (length b))
weighted-clipped b n =
    ⊎_elim
    (λ p. weighted-past b n p ∙ ap (weighted b) (let e : length b ≡ min n (length b) = omega arith in e))
    (λ p. ap (weighted b) (let e : n ≡ min n (length b) = omega arith in e))
    (le-or-lt (length b) n)
