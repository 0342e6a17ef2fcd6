-- The first block with a bad check: which it is, and that there is one exactly where 27 is given. FORMAT, "Blocks". Assumes
-- nothing.
use Prim.Native.Nat.{ℕ, ◌<◌}
use mathlib.Core.Path.{◌≡◌, sym, ◌∙◌}
use mathlib.Core.Bool.{true, false}
use mathlib.Core.List.{List}
use native.Mathlib.Omega.{arith}
use lib.Dec.{eqb}
use borrow.Author.Tests.{eq-eqb, eqb-true}
use Rattle.lists.proofs.Tests.{first-at, first-not, first-all}
use Rattle.lists.proofs.Truth.{◌exactly-when◌, held, holds}
use Rattle.block_check.specs.Check.{passes}
use Rattle.block_layout.specs.Carried.{whole_blocks, block_at}
use Rattle.block_layout.specs.Refusals.{checks_pass, first_bad}

module _ (s : List ℕ) where
  pub none-bad : eqb (first_bad s) (whole_blocks s) ≡ checks_pass s
  unfolding first_bad checks_pass
  none-bad = first-all (λ (i : ℕ). passes (block_at s i)) (whole_blocks s)

  -- there is none exactly when each whole block has its check
  pub none-exactly : (first_bad s ≡ whole_blocks s) exactly-when (checks_pass s ≡ true)
  none-exactly = (λ e. sym none-bad ∙ eq-eqb _ _ e, λ e. eqb-true _ _ (none-bad ∙ e))

  -- it is block i exactly when that is a whole block whose check is bad, and each before it has its check
  pub record BadAt (i : ℕ) : Type 0 where
    pub inside : i < whole_blocks s
    pub bad : passes (block_at s i) ≡ false
    pub before : (k : ℕ) → k < i → passes (block_at s k) ≡ true

  pub bad-exactly : (i : ℕ) → ((first_bad s ≡ i) × (i < whole_blocks s)) exactly-when BadAt i
  unfolding first_bad
  bad-exactly i = (found, placed)
    where
      found : (first_bad s ≡ i) × (i < whole_blocks s) → BadAt i
      found h =
          let f = first-not (λ (k : ℕ). passes (block_at s k)) (whole_blocks s) in
          record {
            inside = h.1;
            bad = (λ t. passes (block_at s (sym h.0 t))) ∙ f.fails (omega (arith, h.0, h.1));
            before = λ k p. holds (passes (block_at s k)) (f.before k (omega (arith, h.0)));
          }

      placed : BadAt i → (first_bad s ≡ i) × (i < whole_blocks s)
      placed b = (
        first-at (λ (k : ℕ). passes (block_at s k)) (whole_blocks s) i b.inside
            (λ k p. held (passes (block_at s k)) (b.before k p)) b.bad,
        b.inside,
      )
