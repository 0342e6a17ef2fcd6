-- The second that is left and the second that is joined, on any cells: lengths, and every cell that does not change.
-- Assumes nothing.
use Prim.Native.Nat.{ℕ, suc, ◌+◌, ◌*◌, ◌/◌, ◌<◌, ◌≤◌}
use mathlib.Core.Path.{◌≡◌, refl, sym, ◌∙◌}
use mathlib.Core.Bool.{Bool, true, false, cond}
use mathlib.Core.List.{List}
use mathlib.Core.Option.{Option, none, some}
use native.Mathlib.Omega.{arith}
use lib.Dec.{eqb}
use lib.ListN.{get_or, length}
use borrow.Author.Tests.{eqb-false}
use Rattle.lists.specs.Fill.{tab}
use Rattle.lists.proofs.Fill.{length-tab, get_or-tab, tab-ext}
use Rattle.index_model.specs.declared.Opening.{Opening}
use Rattle.index_model.specs.Records.{Record, second_of}
use Rattle.index_model.specs.Cells.{
  width,
  cell,
  block_at,
  with_block,
  no_row,
  merge,
  merged,
  row_within,
  merge_if,
  cell_from,
  second_from,
}
use Rattle.index_model.specs.Opening.{in_window, window_place}
use Rattle.index_model.specs.Calls.{leave, join}
use Rattle.index_model.specs.History.{is_of}
use Rattle.index_model.proofs.Blocks.{length-with, elsewhere, block-at}
use Rattle.index_model.proofs.Rows.{row_for, row-records, row-second}
use Rattle.index_model.proofs.Limits.{in_window_lem}
use Rattle.index_model.proofs.Window.{F, C, R}

pub length-second : (rows : List ℕ) (s n : ℕ) → length (second_from rows s n) ≡ width
unfolding second_from
length-second rows s n = length-tab (λ (j : ℕ). cell_from rows s j n) 0 width

pub second_at : (rows : List ℕ) (s n j : ℕ) → j < width → get_or (second_from rows s n) j 0 ≡ cell_from rows s j n
unfolding second_from
second_at rows s n j h = get_or-tab (λ (j : ℕ). cell_from rows s j n) width j 0 h

pub length_merged : (second row : List ℕ) → length (merged second row) ≡ width
unfolding merged
length_merged second row = length-tab (λ (j : ℕ). merge j (get_or second j 0) (get_or row j 0)) 0 width

pub merged-at : (second row : List ℕ) (j : ℕ) → j < width
    → get_or (merged second row) j 0 ≡ merge j (get_or second j 0) (get_or row j 0)
unfolding merged
merged-at second row j h = get_or-tab (λ (j : ℕ). merge j (get_or second j 0) (get_or row j 0)) width j 0 h

-- a pass over the rows: before the first, and one row further
pub second_none : (rows : List ℕ) (s : ℕ) → second_from rows s 0 ≡ no_row
unfolding second_from cell_from
second_none rows s = refl

pub second-next : (rows : List ℕ) (s i : ℕ)
    → second_from rows s (suc i) ≡ cond (row_within rows i s) (merged (second_from rows s i) (block_at rows i)) (second_from rows s i)
unfolding second_from cell_from
second-next rows s i = by-test (row_within rows i s)
  where
    by-test : (t : Bool) → tab (λ (j : ℕ). merge_if t j (cell_from rows s j i) (cell rows i j)) 0 width
        ≡ cond t (merged (second_from rows s i) (block_at rows i)) (second_from rows s i)
    by-test true =
        sym
        (tab-ext (λ (j : ℕ). merge j (cell_from rows s j i) (cell rows i j)) width 0
        (merged (second_from rows s i) (block_at rows i)) (length_merged (second_from rows s i) (block_at rows i))
        (λ j h. merged-at (second_from rows s i) (block_at rows i) j h
        ∙ (λ t. merge j (second_at rows s i j h t) (block-at rows i j h t))))
    by-test false = refl

module _ (o : Opening) where
  -- every entry of a number is of a second of the window
  abbrev pub Inside : Option Record → Type 0
  Inside held = (b : Record) → held ≡ some b → in_window o (second_of b) ≡ true

  -- leaving, by what the number had
  abbrev pub leave_for : List ℕ → Option Record → List ℕ → List ℕ
  leave_for rows none seconds = seconds
  leave_for rows (some b) seconds = with_block seconds (window_place o (second_of b)) (second_from rows (second_of b) (R o))

  pub leave-is : (rows : List ℕ) (held : Option Record) (seconds : List ℕ) → Inside held
      → leave o rows (get_or (row_for held) 0 0) (get_or (row_for held) 3 0) seconds ≡ leave_for rows held seconds
  unfolding leave
  leave-is rows none seconds h = refl
  leave-is rows (some b) seconds h =
      (λ t. leave o rows (row-records b t) (row-second b t) seconds)
      ∙ (λ t. cond (h b refl t)
      (with_block seconds (window_place o (second_of b)) (second_from rows (second_of b) (R o))) seconds)

  fits : (s : ℕ) (seconds : List ℕ) → in_window o s ≡ true → width * C o ≤ length seconds
      → width * window_place o s + width ≤ length seconds
  fits s seconds e long = let w = in_window_lem o s e in omega (arith, w.0, w.1)

  -- a second's place is that of a cell only if it is that cell's second
  pub other_place : (s m : ℕ) → in_window o s ≡ true → eqb s (F o + m / width) ≡ false → m / width ≡ window_place o s → ⊥
  other_place s m e ne z = let w = in_window_lem o s e in eqb-false s (F o + m / width) ne (omega (arith, w.0, z))

  pub length-leave : (rows : List ℕ) (held : Option Record) (seconds : List ℕ) → Inside held → width * C o ≤ length seconds
      → length (leave_for rows held seconds) ≡ length seconds
  length-leave rows none seconds h long = refl
  length-leave rows (some b) seconds h long =
      length-with seconds (window_place o (second_of b)) _ (fits (second_of b) seconds (h b refl) long)
      (length-second rows (second_of b) (R o))

  pub leave-frame : (rows : List ℕ) (held : Option Record) (seconds : List ℕ) → Inside held → width * C o ≤ length seconds
      → (m : ℕ) → is_of (F o + m / width) held ≡ false → get_or (leave_for rows held seconds) m 0 ≡ get_or seconds m 0
  leave-frame rows none seconds h long m ne = refl
  leave-frame rows (some b) seconds h long m ne =
      elsewhere seconds (window_place o (second_of b)) _ (fits (second_of b) seconds (h b refl) long)
      (length-second rows (second_of b) (R o))
      m (other_place (second_of b) m (h b refl) ne)

  module _ (s : ℕ) (window : in_window o s ≡ true) (row : List ℕ) (seconds : List ℕ) (long : width * C o ≤ length seconds) where
    pub length-join : (anew : Bool) → length (join anew seconds (window_place o s) row) ≡ length seconds
    unfolding join
    length-join true = refl
    length-join false =
        length-with seconds (window_place o s) _ (fits s seconds window long)
        (length_merged (block_at seconds (window_place o s)) row)

    pub join-frame : (anew : Bool) (m : ℕ) → eqb s (F o + m / width) ≡ false → get_or (join anew seconds (window_place o s) row) m 0
        ≡ get_or seconds m 0
    unfolding join
    join-frame true m ne = refl
    join-frame false m ne =
        elsewhere seconds (window_place o s) _ (fits s seconds window long) (length_merged (block_at seconds (window_place o s)) row)
        m (other_place s m window ne)
