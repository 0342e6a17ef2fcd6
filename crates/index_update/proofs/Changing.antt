-- A second left and a second joined, on cells that are read and stored as blocks. Assumes nothing.
use Prim.Native.Nat.{ℕ, ◌+◌, ◌*◌, ◌/◌, ◌≤◌, min}
use mathlib.Core.Path.{◌≡◌, sym, ◌∙◌}
use mathlib.Core.Bool.{Bool, true, cond, not, ◌&&◌}
use mathlib.Core.List.{List}
use native.Mathlib.Omega.{arith}
use lib.Dec.{eqb}
use lib.ListN.{length}
use Rattle.lists.proofs.Truth.{right, holds, held}
use Rattle.index_model.specs.declared.Opening.{Opening}
use Rattle.index_model.specs.Cells.{width, block_at, with_block, merged, second_from}
use Rattle.index_model.specs.Buffers.{lent}
use Rattle.index_model.specs.Limits.{WithinLimits}
use Rattle.index_model.specs.Opening.{in_window, window_place}
use Rattle.index_model.specs.Calls.{leave}
use Rattle.index_model.proofs.Limits.{in_window_lem}
use Rattle.index_cells.specs.Blocks.{block_or_none, block_put}
use Rattle.index_cells.proofs.Parts.{held-block, held-put}
use Rattle.index_cells.proofs.Held.{block-put, all-rows}
use Rattle.index_update.specs.Inner.{Placed}

pub placed : (o : Opening) (s : ℕ) → in_window o s ≡ true → Placed o s
placed o s e = let w = in_window_lem o s e in record { from = w.0; until = w.1 }

-- the second that an old row was of
module _ (o : Opening) (rows : List ℕ) (was old : ℕ) (seconds : List ℕ) where
  abbrev is_left : Bool
  is_left = not (eqb was 0) && in_window o old

  abbrev anew : ℕ → List ℕ
  anew count = second_from rows old count

  left-place : is_left ≡ true → Placed o old
  left-place e = placed o old (holds (in_window o old) (right (not (eqb was 0)) (in_window o old) (held is_left e)))

  pub second-left : WithinLimits o (lent rows seconds) → is_left ≡ true
      → block_put seconds (window_place o old) (anew (min o.highest_number (length rows / width)))
      ≡ leave o rows was old seconds
  unfolding leave
  second-left limits e =
      let p = left-place e in
      (λ t. block_put seconds (window_place o old) (anew (all-rows rows o.highest_number limits.rows_long t)))
      ∙ block-put seconds o.second_count (window_place o old) limits.seconds-long (omega (arith, p.from, p.until))
      (anew o.highest_number)
      ∙ sym (λ t. cond (e t) (with_block seconds (window_place o old) (anew o.highest_number)) seconds)

-- the second at place k, which the buffer holds
module _ (seconds : List ℕ) (k : ℕ) (row : List ℕ) where
  pub second-joined : width * k + width ≤ length seconds → block_put seconds k (merged (block_or_none seconds k) row)
      ≡ with_block seconds k (merged (block_at seconds k) row)
  second-joined h =
      sym (held-put seconds k (merged (block_or_none seconds k) row) (omega arith))
      ∙ sym (λ t. with_block seconds k (merged (held-block seconds k (omega arith) t) row))
