-- One block of cells, a row or a second, replaced: what it holds then, and that no other cell changes. Assumes nothing.
use Prim.Native.Nat.{ℕ, ◌+◌, ◌-◌, ◌*◌, ◌/◌, ◌<◌, ◌≤◌}
use mathlib.Core.Path.{◌≡◌, ap, sym, ◌∙◌}
use mathlib.Core.List.{List, ◌++◌}
use mathlib.Core.Logic.{⊎_elim}
use native.Mathlib.Omega.{arith}
use lib.ListN.{get_or, length, take, drop, length-append, length-drop, get_or-append}
use lib.Seq.{length-take-le, get_or-append-add, get_or-drop, get_or-take}
use Rattle.lists.specs.Fill.{tab}
use Rattle.lists.proofs.Fill.{tab-ext}
use Rattle.lists.proofs.Order.{le-or-lt}
use Rattle.index_model.specs.Cells.{width, cell, with_block, block_at}

module _ (l : List ℕ) (i : ℕ) (block : List ℕ) (fits : width * i + width ≤ length l) (whole : length block ≡ width) where
  abbrev tail : List ℕ
  tail = drop width (drop (width * i) l)

  head-length : length (take (width * i) l) ≡ width * i
  head-length = length-take-le (width * i) l (omega arith)

  pub length-with : length (with_block l i block) ≡ length l
  unfolding with_block
  length-with =
      omega (
        arith,
        length-append (take (width * i) l) (block ++ tail),
        length-append block tail,
        head-length,
        length-drop width
            (drop (width * i) l),
        length-drop (width * i) l,
      )

  before : (m : ℕ) → m < width * i → get_or (with_block l i block) m 0 ≡ get_or l m 0
  unfolding with_block
  before m h =
      get_or-append (take (width * i) l) (block ++ tail) 0 m (omega (arith, head-length)) ∙ get_or-take (width * i) l m 0 h

  from : (m : ℕ) → get_or (with_block l i block) (width * i + m) 0 ≡ get_or (block ++ tail) m 0
  unfolding with_block
  from m =
      ap (λ (a : ℕ). get_or (take (width * i) l ++ (block ++ tail)) (a + m) 0) (sym head-length)
      ∙ get_or-append-add (take (width * i) l) (block ++ tail) m 0

  -- the block's own cells
  pub at_block : (j : ℕ) → j < width → cell (with_block l i block) i j ≡ get_or block j 0
  at_block j h = from j ∙ get_or-append block tail 0 j (omega arith)

  beyond : (m : ℕ) → get_or (with_block l i block) (width * i + (width + m)) 0 ≡ get_or l (width * i + (width + m)) 0
  beyond m =
      from (width + m)
      ∙ ap (λ (a : ℕ). get_or (block ++ tail) (a + m) 0) (sym whole)
      ∙ get_or-append-add block tail m 0
      ∙ get_or-drop width (drop (width * i) l) m 0
      ∙ get_or-drop (width * i) l (width + m) 0

  -- every cell of another block, or of none
  pub elsewhere : (m : ℕ) → (m / width ≡ i → ⊥) → get_or (with_block l i block) m 0 ≡ get_or l m 0
  elsewhere m ne = ⊎_elim after (λ h. before m h) (le-or-lt (width * i) m)
    where
      after : width * i ≤ m → get_or (with_block l i block) m 0 ≡ get_or l m 0
      after h =
          let e : width * i + (width + (m - (width * i + width))) ≡ m = omega (arith, ne) in
          ap (λ (a : ℕ). get_or (with_block l i block) a 0) (sym e) ∙ beyond (m - (width * i + width)) ∙ ap (λ (a : ℕ). get_or l a 0) e

  pub at_other : (k j : ℕ) → j < width → (k ≡ i → ⊥) → cell (with_block l i block) k j ≡ cell l k j
  at_other k j h ne = elsewhere (width * k + j) (λ e. ne (omega (arith, e)))

pub block-at : (l : List ℕ) (i j : ℕ) → j < width → get_or (block_at l i) j 0 ≡ cell l i j
block-at l i j h = get_or-take width (drop (width * i) l) j 0 h ∙ get_or-drop (width * i) l j 0

-- a block is its cells
pub block-cells : (l : List ℕ) (i : ℕ) → width * i + width ≤ length l → (f : ℕ → ℕ) → ((j : ℕ) → j < width → cell l i j ≡ f j)
    → block_at l i ≡ tab f 0 width
block-cells l i fits f h =
    tab-ext f width 0 (block_at l i) (length-take-le width (drop (width * i) l) (omega (arith, length-drop (width * i) l)))
    (λ j q. block-at l i j q ∙ h j q)
