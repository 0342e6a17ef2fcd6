-- The two ways in which cells are merged, the sum and the greatest: in any order and grouping the same, 0 changes nothing,
-- and a sum that fits a cell is exact. Assumes nothing.
use Prim.Native.Nat.{ℕ, ◌+◌, ◌<◌, max}
use mathlib.Core.Path.{◌≡◌, refl}
use mathlib.Core.Bool.{Bool, true, false, true≢false}
use native.Mathlib.Omega.{arith}
use Rattle.index_model.specs.Cells.{cell_limit, merge_by}

-- a merge of plain numbers, not bounded by a cell
unfoldable pub plain_by : Bool → ℕ → ℕ → ℕ
plain_by true a b = max a b
plain_by false a b = a + b

pub plain-swap : (g : Bool) (a b c : ℕ) → plain_by g (plain_by g a b) c ≡ plain_by g (plain_by g a c) b
unfolding plain_by
plain-swap true a b c = omega arith
plain-swap false a b c = omega arith

pub plain-none : (g : Bool) (a : ℕ) → plain_by g a 0 ≡ a
unfolding plain_by
plain-none true a = omega arith
plain-none false a = omega arith

pub plain-sum : (g : Bool) (a b : ℕ) → g ≡ false → plain_by g a b ≡ a + b
unfolding plain_by
plain-sum true a b e = absurd (true≢false e)
plain-sum false a b e = refl

-- where a sum fits a cell, the cells' merge is the plain one
pub exact : (g : Bool) (a b : ℕ) → (g ≡ false → plain_by g a b < cell_limit) → merge_by g a b ≡ plain_by g a b
unfolding plain_by merge_by
exact true a b h = refl
exact false a b h = omega (arith, h refl)

-- and so does what was merged before
pub fits-before : (g : Bool) (a b : ℕ) → (g ≡ false → plain_by g a b < cell_limit) → g ≡ false → a < cell_limit
fits-before g a b h e = omega (arith, h e, plain-sum g a b e)
