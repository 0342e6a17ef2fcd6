-- Laws of a row or a second as a part of its buffer. Assumes nothing.
use Prim.Native.Nat.{ℕ, ◌+◌, ◌-◌, ◌*◌, ◌/◌, ◌<◌, ◌≤◌}
use mathlib.Core.Path.{◌≡◌, sym, ◌∙◌}
use mathlib.Core.Bool.{cond}
use mathlib.Core.List.{List}
use native.Mathlib.Omega.{arith}
use native.Mathlib.Nat.{add-sub_cancel_left}
use lib.ListN.{length}
use borrow.Author.Tests.{lt-ltb, le-ltb}
use borrow.Rule.Slice.PartMut.{put_mid}
use Rattle.lists.specs.Fill.{tab}
use Rattle.lists.proofs.Fill.{Filled, tab-ext}
use Rattle.index_model.specs.Cells.{width, block_at, with_block, no_row}
use Rattle.index_cells.specs.Blocks.{block_or_none, block_put}

-- a list of a row's length whose cells are all filled by a rule
pub all-filled : {b : List ℕ} {f : ℕ → ℕ} {n : ℕ} {l : List ℕ} → n ≡ width → length b ≡ width → Filled b f 0 n l
    → l ≡ tab f 0 width
all-filled {b} {f} {n} {l} e w o = tab-ext f width 0 l (o.same ∙ w) (λ i h. o.low i (omega (arith, e)))

-- a part lent and given back
pub part-put : (l : List ℕ) (i : ℕ) (block : List ℕ) → put_mid (width * i) (width * i + width - width * i) l block
    ≡ with_block l i block
unfolding with_block
part-put l i block = λ t. put_mid (width * i) (add-sub_cancel_left (width * i) width t) l block

-- a buffer that holds row i, and one that does not
module _ (cells : List ℕ) (i : ℕ) where
  pub held-block : i < length cells / width → block_at cells i ≡ block_or_none cells i
  unfolding block_or_none
  held-block h = sym (λ t. cond (lt-ltb i (length cells / width) h t) (block_at cells i) no_row)

  pub no_block : length cells / width ≤ i → no_row ≡ block_or_none cells i
  unfolding block_or_none
  no_block h = sym (λ t. cond (le-ltb i (length cells / width) h t) (block_at cells i) no_row)

  pub held-put : (block : List ℕ) → i < length cells / width → with_block cells i block ≡ block_put cells i block
  unfolding block_put
  held-put block h = sym (λ t. cond (lt-ltb i (length cells / width) h t) (with_block cells i block) cells)

  pub no-put : (block : List ℕ) → length cells / width ≤ i → cells ≡ block_put cells i block
  unfolding block_put
  no-put block h = sym (λ t. cond (le-ltb i (length cells / width) h t) (with_block cells i block) cells)
