-- The order of the refusals: each number is given where none before it applies, whatever comes after it. So 27 comes before 28,
-- and a record is judged also where the buffer cannot hold it. FORMAT, "Blocks", "Refusal numbers". Assumes nothing.
use Prim.Native.Nat.{ℕ, zero, suc, ◌*◌, ◌≤◌, ◌<◌}
use mathlib.Core.Path.{◌≡◌, refl, ap, sym, ◌∙◌, subst}
use mathlib.Core.Bool.{Bool, true, false, cond, not}
use mathlib.Core.List.{List, [], ◌∷◌}
use mathlib.Core.Logic.{◌⊎◌, inl, inr, ⊎_elim}
use native.Mathlib.Omega.{arith}
use lib.Dec.{T, leb, ltb}
use lib.ListN.{length}
use borrow.Author.Tests.{not-false}
use Rattle.lists.proofs.Truth.{◌exactly-when◌, held}
use Rattle.answers.specs.Refusal.{Check, ◌when◌, first, ◌then◌}
use Rattle.answers.proofs.Refusals.{then_some, then-none, then-most, first-most, none-applies}
use Rattle.header.specs.Edition.{is_unknown}
use Rattle.record.specs.Record.{record_refusal}
use Rattle.record.proofs.Accepted.{refusal-most}
use Rattle.block_check.specs.Check.{block_bytes}
use Rattle.block_layout.specs.Layout.{block_count}
use Rattle.block_layout.specs.Carried.{carried_of}
use Rattle.block_layout.specs.Refusals.{export_refusal, block_refusal, checks_pass, blocks_right, blocks_refusal, import_refusal}

-- ## export, of all blocks and of block i

module _ (n : ℕ) (r : List ℕ) (room : ℕ) where
  pub export-own : (record_refusal n r ≡ 0 → ⊥) → export_refusal n r room ≡ record_refusal n r
  unfolding export_refusal
  export-own some = then_some (record_refusal n r) _ some

  pub export-room : (t : Bool) → record_refusal n r ≡ 0 → ltb room (block_bytes * block_count (length r)) ≡ t
      → export_refusal n r room ≡ first (21 when t ∷ [])
  unfolding export_refusal
  export-room t e q = λ i. e i then first (21 when q i ∷ [])

  module _ (i : ℕ) where
    pub block-own : (record_refusal n r ≡ 0 → ⊥) → block_refusal n r i room ≡ record_refusal n r
    unfolding block_refusal
    block-own some = then_some (record_refusal n r) _ some

    pub block-28 : record_refusal n r ≡ 0 → leb (block_count (length r)) i ≡ true → block_refusal n r i room ≡ 28
    unfolding block_refusal
    block-28 e p = λ j. e j then first (28 when p j ∷ 21 when ltb room block_bytes ∷ [])

    pub block_room : (t : Bool) → record_refusal n r ≡ 0 → leb (block_count (length r)) i ≡ false → ltb room block_bytes ≡ t
        → block_refusal n r i room ≡ first (21 when t ∷ [])
    unfolding block_refusal
    block_room t e p q = λ j. e j then first (28 when p j ∷ 21 when q j ∷ [])

-- ## import

is_zero : (k : ℕ) → (k ≡ 0) ⊎ (k ≡ 0 → ⊥)
is_zero zero = inl refl
is_zero (suc k) = inr (λ e. omega (arith, e))

-- a check that applies, and one that does not
applies : (t : Bool) (k m : ℕ) → t ≡ true → cond t k m ≡ k
applies t k m e = ap (λ (u : Bool). cond u k m) e

passed : (t : Bool) (k m : ℕ) → t ≡ false → cond t k m ≡ m
passed t k m e = ap (λ (u : Bool). cond u k m) e

-- what is refused of blocks whatever they carry
module _ (n : ℕ) (s : List ℕ) where
  blocks-25 : is_unknown n ≡ true → blocks_refusal n s ≡ 25
  unfolding blocks_refusal
  blocks-25 e = applies (is_unknown n) 25 _ e

  blocks-27 : is_unknown n ≡ false → checks_pass s ≡ false → blocks_refusal n s ≡ 27
  unfolding blocks_refusal
  blocks-27 e p = passed (is_unknown n) 25 _ e ∙ applies (not (checks_pass s)) 27 _ (ap not p)

  blocks-28 : is_unknown n ≡ false → checks_pass s ≡ true → blocks_right s ≡ false → blocks_refusal n s ≡ 28
  unfolding blocks_refusal
  blocks-28 e p q = passed (is_unknown n) 25 _ e ∙ passed (not (checks_pass s)) 27 _ (ap not p) ∙ applies (not (blocks_right s)) 28 _ (ap not q)

  pub blocks-none : is_unknown n ≡ false → checks_pass s ≡ true → blocks_right s ≡ true → blocks_refusal n s ≡ 0
  unfolding blocks_refusal
  blocks-none e p q =
      passed (is_unknown n) 25 _ e ∙ passed (not (checks_pass s)) 27 _ (ap not p) ∙ passed (not (blocks_right s)) 28 _ (ap not q)

  -- where nothing is, the checks pass and the blocks are right
  abbrev checks : List Check
  checks = 25 when is_unknown n ∷ 27 when not (checks_pass s) ∷ 28 when not (blocks_right s) ∷ []

  pub all_pass : blocks_refusal n s ≡ 0 → T (checks_pass s)
  unfolding blocks_refusal
  all_pass e = held (checks_pass s) (not-false _ (none-applies checks 1 tt e))

  pub all_right : blocks_refusal n s ≡ 0 → T (blocks_right s)
  unfolding blocks_refusal
  all_right e = held (blocks_right s) (not-false _ (none-applies checks 2 tt e))

module _ (n : ℕ) (s : List ℕ) (room : ℕ) where
  pub import-blocks : (blocks_refusal n s ≡ 0 → ⊥) → import_refusal n s room ≡ blocks_refusal n s
  unfolding import_refusal
  import-blocks some = then_some (blocks_refusal n s) _ some

  pub import-25 : is_unknown n ≡ true → import_refusal n s room ≡ 25
  import-25 e = let b = blocks-25 n s e in import-blocks (λ z. omega (arith, b, z)) ∙ b

  pub import-27 : is_unknown n ≡ false → checks_pass s ≡ false → import_refusal n s room ≡ 27
  import-27 e p = let b = blocks-27 n s e p in import-blocks (λ z. omega (arith, b, z)) ∙ b

  pub import-28 : is_unknown n ≡ false → checks_pass s ≡ true → blocks_right s ≡ false → import_refusal n s room ≡ 28
  import-28 e p q = let b = blocks-28 n s e p q in import-blocks (λ z. omega (arith, b, z)) ∙ b

  module _ (none : blocks_refusal n s ≡ 0) where
    pub import-own : (record_refusal n (carried_of s) ≡ 0 → ⊥) → import_refusal n s room ≡ record_refusal n (carried_of s)
    unfolding import_refusal
    import-own some = then-none (blocks_refusal n s) _ none ∙ then_some (record_refusal n (carried_of s)) _ some

    pub import-room : (t : Bool) → record_refusal n (carried_of s) ≡ 0 → ltb room (length (carried_of s)) ≡ t
        → import_refusal n s room ≡ first (21 when t ∷ [])
    unfolding import_refusal
    import-room t e q = λ i. none i then e i then first (21 when q i ∷ [])

  -- past 25, 27 and 28 no number is above 25: so each of the two is given exactly when
  rest-most : blocks_refusal n s ≡ 0 → import_refusal n s room ≤ 25
  unfolding import_refusal
  rest-most none =
      subst (λ (k : ℕ). k ≤ 25) (sym (then-none (blocks_refusal n s) _ none))
      (then-most (record_refusal n (carried_of s)) _ 25 (refusal-most n (carried_of s))
      (first-most 25 (21 when ltb room (length (carried_of s)) ∷ []) tt))

  abbrev by : Bool → Bool → Bool → ℕ
  by unknown pass fine = first (25 when unknown ∷ 27 when not pass ∷ 28 when not fine ∷ [])

  -- what the three tests say, where the blocks' refusal or the rest gives k, 27 or 28
  tests : (k : ℕ) → 26 < k → import_refusal n s room ≡ k → by (is_unknown n) (checks_pass s) (blocks_right s) ≡ k
  unfolding blocks_refusal
  tests k above e =
      ⊎_elim (λ z. absurd (let f : ⊥ = omega (arith, rest-most z, e) in f)) (λ some. sym (import-blocks some) ∙ e)
      (is_zero (blocks_refusal n s))

  pub import-27-exactly : (import_refusal n s room ≡ 27) exactly-when ((is_unknown n ≡ false) × (checks_pass s ≡ false))
  import-27-exactly = (λ e. told (is_unknown n) (checks_pass s) (blocks_right s) (tests 27 (omega arith) e), λ h. import-27 h.0 h.1)
    where
      told : (u p f : Bool) → by u p f ≡ 27 → (u ≡ false) × (p ≡ false)
      told true p f e = absurd (let z : ⊥ = omega (arith, e) in z)
      told false false f e = (refl, refl)
      told false true false e = absurd (let z : ⊥ = omega (arith, e) in z)
      told false true true e = absurd (let z : ⊥ = omega (arith, e) in z)

  pub import-28-exactly : (import_refusal n s room ≡ 28)
      exactly-when ((is_unknown n ≡ false) × (checks_pass s ≡ true) × (blocks_right s ≡ false))
  import-28-exactly = (
    λ e. told (is_unknown n) (checks_pass s) (blocks_right s) (tests 28 (omega arith) e),
    λ h. import-28 h.0 h.1 h.2,
  )
    where
      told : (u p f : Bool) → by u p f ≡ 28 → (u ≡ false) × (p ≡ true) × (f ≡ false)
      told true p f e = absurd (let z : ⊥ = omega (arith, e) in z)
      told false false f e = absurd (let z : ⊥ = omega (arith, e) in z)
      told false true false e = (refl, refl, refl)
      told false true true e = absurd (let z : ⊥ = omega (arith, e) in z)
