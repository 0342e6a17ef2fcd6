-- What damage does to the equation of a block that passes. Assumes nothing.
use Prim.Native.Nat.{ℕ, suc, ◌+◌, ◌-◌, ◌*◌, ◌%◌, ◌≤◌, ◌<◌}
use mathlib.Core.Path.{◌≡◌, ap, sym, ◌∙◌}
use mathlib.Core.List.{List}
use mathlib.Core.Logic.{⊎_elim}
use native.Mathlib.Nat.{mul-add}
use native.Mathlib.Omega.{arith}
use lib.ListN.{get_or, length, set, length-set}
use lib.Seq.{get_or-set_same, get_or-set_other}
use Rattle.lists.proofs.Order.{le-or-lt}
use Rattle.block_check.specs.Check.{modulus, covered, block_bytes, weighted, check_of, word_at, exchanged}
use Rattle.block_check.proofs.Factors.{differ}
use Rattle.block_check.proofs.Weights.{weighted-kept, weighted-set}

-- the last two bytes are the check
abbrev pub Passes : List ℕ → Type 0
Passes b = word_at b covered ≡ check_of b

-- a byte before the check is set: the word there stays
word_kept : (b : List ℕ) (i v : ℕ) → i < covered → word_at (set b i v) covered ≡ word_at b covered
word_kept b i v h =
    λ t. get_or-set_other b i covered v 0 (λ z. omega (arith, z)) t * 256 + get_or-set_other b i (covered + 1) v 0 (λ z. omega (arith, z)) t

module _ (b : List ℕ) (whole : length b ≡ block_bytes) (bytes : (k : ℕ) → get_or b k 0 < 256) (passes : Passes b) where
  covered-changed : (i v : ℕ) → i < covered → v < 256 → (v ≡ get_or b i 0 → ⊥) → Passes (set b i v) → ⊥
  covered-changed i v h hv ne still =
      differ (weighted b covered) (weighted (set b i v) covered) (get_or b i 0) v (suc i) (bytes i) hv ne (omega arith) (omega arith)
      (weighted-set b i v covered h (omega (arith, whole)))
      (sym passes ∙ sym (word_kept b i v h) ∙ still)

  check-changed : (i v : ℕ) → covered ≤ i → i < block_bytes → v < 256 → (v ≡ get_or b i 0 → ⊥) → Passes (set b i v) → ⊥
  check-changed i v l h hv ne still =
      let same : word_at (set b i v) covered ≡ word_at b covered =
      still ∙ ap (λ (s : ℕ). s % modulus) (weighted-kept b i v covered l) ∙ sym passes in
      let there = get_or-set_same b i v 0 (omega (arith, whole)) in
      ⊎_elim
      (λ p.
      let e : i ≡ covered + 1 = omega arith in
      let first = get_or-set_other b i covered v 0 (λ z. omega (arith, z)) in
      ne (omega (arith, same, first, there, ap (λ (k : ℕ). get_or (set b i v) k 0) e, ap (λ (k : ℕ). get_or b k 0) e)))
      (λ p.
      let e : i ≡ covered = omega arith in
      let last = get_or-set_other b i (covered + 1) v 0 (λ z. omega (arith, z)) in
      ne (omega (arith, same, last, there, ap (λ (k : ℕ). get_or (set b i v) k 0) e, ap (λ (k : ℕ). get_or b k 0) e)))
      (le-or-lt (covered + 1) i)

  -- one byte changed anywhere
  pub one-changed : (i v : ℕ) → i < block_bytes → v < 256 → (v ≡ get_or b i 0 → ⊥) → Passes (set b i v) → ⊥
  one-changed i v h hv ne still =
      ⊎_elim (λ p. check-changed i v p h hv ne still) (λ p. covered-changed i v p hv ne still) (le-or-lt covered i)

  -- two unequal bytes among the first 510 exchanged
  pub two-exchanged : (i j : ℕ) → i < j → j < covered → (get_or b i 0 ≡ get_or b j 0 → ⊥) → Passes (exchanged b i j) → ⊥
  two-exchanged i j h hj ne still =
      let x = get_or b i 0 in
      let y = get_or b j 0 in
      let e : ℕ = j - i in
      let there : get_or (set b i y) j 0 ≡ y = get_or-set_other b i j y 0 (λ z. omega (arith, z)) in
      let once = weighted-set b i y covered (omega arith) (omega (arith, whole)) in
      let twice = weighted-set (set b i y) j x covered hj (omega (arith, whole, length-set b i y)) in
      let sx : x * suc j ≡ x * suc i + x * e = ap (λ (n : ℕ). x * n) (let q : suc j ≡ suc i + e = omega arith in q) ∙ mul-add x (suc i) e in
      let sy : y * suc j ≡ y * suc i + y * e = ap (λ (n : ℕ). y * n) (let q : suc j ≡ suc i + e = omega arith in q) ∙ mul-add y (suc i) e in
      differ (weighted b covered) (weighted (exchanged b i j) covered) y x e (bytes j) (bytes i) ne (omega arith) (omega arith)
      (omega (arith, once, twice, sx, sy, ap (λ (n : ℕ). n * suc j) there))
      (sym passes ∙ sym (word_kept b i y (omega arith)) ∙ sym (word_kept (set b i y) j x hj) ∙ still)
