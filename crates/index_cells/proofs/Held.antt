-- The rows and seconds that a long enough buffer holds. Assumes nothing.
use Prim.Native.Nat.{ℕ, ◌*◌, ◌/◌, ◌<◌, ◌≤◌, min}
use mathlib.Core.Path.{◌≡◌, sym}
use mathlib.Core.List.{List}
use native.Mathlib.Omega.{arith}
use lib.ListN.{length}
use Rattle.index_model.specs.Cells.{width, block_at, with_block}
use Rattle.index_cells.specs.Blocks.{block_or_none, block_put}
use Rattle.index_cells.proofs.Parts.{held-block, held-put}

-- row (or second) i of n that a buffer holds
module _ (cells : List ℕ) (n i : ℕ) (long : width * n ≤ length cells) (h : i < n) where
  pub block_read : block_or_none cells i ≡ block_at cells i
  block_read = sym (held-block cells i (omega arith))

  pub block-put : (block : List ℕ) → block_put cells i block ≡ with_block cells i block
  block-put block = sym (held-put cells i block (omega arith))

-- a pass over n rows that a buffer holds passes them all
pub all-rows : (cells : List ℕ) (n : ℕ) → width * n ≤ length cells → min n (length cells / width) ≡ n
all-rows cells n long = omega arith
