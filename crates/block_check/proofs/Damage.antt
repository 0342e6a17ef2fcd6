-- A passing block with one byte changed, or with two unequal bytes among its first 510 exchanged, fails. FORMAT, "Blocks".
-- Assumes nothing.
use Prim.Native.Nat.{ℕ, suc, ◌<◌}
use mathlib.Core.Path.{◌≡◌, ap, sym, ◌∙◌}
use mathlib.Core.Bool.{true, false}
use mathlib.Core.List.{List}
use mathlib.Core.Logic.{⊎_elim}
use native.Mathlib.Omega.{arith}
use lib.ListN.{get_or, length, set}
use lib.Seq.{set_comm}
use borrow.Author.Tests.{eqb-true, ne_eqb}
use Rattle.lists.proofs.Order.{le-or-lt}
use Rattle.block_check.specs.Check.{covered, block_bytes, check_of, word_at, passes, exchanged}
use Rattle.block_check.proofs.Changed as changed

module _ (b : List ℕ) (whole : length b ≡ block_bytes) (bytes : (k : ℕ) → get_or b k 0 < 256) (passing : passes b ≡ true) where
  equation : word_at b covered ≡ check_of b
  equation = eqb-true (word_at b covered) (check_of b) passing

  -- the byte at i becomes another, v
  pub one-changed : (i v : ℕ) → i < block_bytes → v < 256 → (v ≡ get_or b i 0 → ⊥) → passes (set b i v) ≡ false
  one-changed i v h hv differs =
      ne_eqb (word_at (set b i v) covered) (check_of (set b i v)) (changed.one-changed b whole bytes equation i v h hv differs)

  in_order : (i j : ℕ) → i < j → j < covered → (get_or b i 0 ≡ get_or b j 0 → ⊥) → passes (exchanged b i j) ≡ false
  in_order i j h hj differ =
      ne_eqb (word_at (exchanged b i j) covered) (check_of (exchanged b i j)) (changed.two-exchanged b whole bytes equation i j h hj differ)

  -- the bytes at i and j change places
  pub two-exchanged : (i j : ℕ) → i < covered → j < covered → (get_or b i 0 ≡ get_or b j 0 → ⊥) → passes (exchanged b i j) ≡ false
  two-exchanged i j hi hj differ =
      ⊎_elim (λ p. in_order i j p hj differ)
      (λ p.
      ap passes (set_comm b i j (get_or b j 0) (get_or b i 0) apart) ∙ in_order j i (omega (arith, apart)) hi (λ e. differ (sym e)))
      (le-or-lt (suc i) j)
    where
      apart : i ≡ j → ⊥
      apart e = differ (ap (λ (k : ℕ). get_or b k 0) e)
