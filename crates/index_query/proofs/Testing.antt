-- The test: its answer by those of each row, each second and each cell. Assumes nothing.
use Prim.Native.Nat.{ℕ, zero, suc, ◌+◌, ◌/◌, ◌<◌, min}
use mathlib.Core.Path.{◌≡◌, ap, sym, ◌∙◌}
use mathlib.Core.Bool.{Bool, true, ◌&&◌}
use mathlib.Core.List.{List, [], ◌∷◌}
use native.Mathlib.Omega.{arith}
use lib.Dec.{eqb}
use lib.ListN.{length, get_or}
use Rattle.std.specs.List.{list_all, range_with_len}
use Rattle.std.specs.Cmp.Lexicographic.{pointwise}
use Rattle.lists.proofs.Truth.{and-true, and_assoc}
use Rattle.index_model.specs.declared.Opening.{Opening}
use Rattle.index_model.specs.Cells.{width, cell, cell_from, second_from}
use Rattle.index_model.specs.Buffers.{Buffers}
use Rattle.index_model.specs.Limits.{WithinLimits}
use Rattle.index_model.specs.Calls.{cells_right}
use Rattle.index_model.proofs.Blocks.{block-at}
use Rattle.index_model.proofs.Seconds.{second_at}
use Rattle.index_cells.specs.Blocks.{block_or_none}
use Rattle.index_cells.proofs.Held.{block_read, all-rows}

-- a test of all numbers below n, by a definition that tests one number more each time
module _ (made test : ℕ → Bool) (more : (k : ℕ) → made (suc k) ≡ (made k && test k)) where
  made-from : (k n : ℕ) → (made k && list_all test (range_with_len k n)) ≡ made (k + n)
  made-from k zero = and-true (made k) ∙ ap made (omega arith)
  made-from k (suc n) =
      sym (and_assoc (made k) (test k) (list_all test (range_with_len (k + 1) n)))
      ∙ (λ t. sym (more k) t && list_all test (range_with_len (k + 1) n))
      ∙ ap (λ (i : ℕ). made i && list_all test (range_with_len (k + 1) n)) (omega arith)
      ∙ made-from (k + 1) n
      ∙ ap made (omega arith)

  pub made-below : (n : ℕ) → made 0 ≡ true → list_all test (range_with_len 0 n) ≡ made n
  made-below n none =
      (λ t. sym none t && list_all test (range_with_len 0 n)) ∙ made-from 0 n ∙ ap made (omega arith)

-- the comparison of two lists of n numbers, likewise
pub made-same : (xs ys : List ℕ) (n : ℕ) (made : ℕ → Bool) → length xs ≡ n → length ys ≡ n
    → ((j : ℕ) → j < n → made (suc j) ≡ (made j && eqb (get_or xs j 0) (get_or ys j 0)))
    → (made 0 && pointwise eqb xs ys) ≡ made n
made-same [] [] n made p q more = and-true (made 0) ∙ ap made p
made-same [] (y ∷ ys) n made p q more = absurd (omega (arith, p, q))
made-same (x ∷ xs) [] n made p q more = absurd (omega (arith, p, q))
made-same (x ∷ xs) (y ∷ ys) zero made p q more = absurd (omega (arith, p))
made-same (x ∷ xs) (y ∷ ys) (suc n) made p q more =
    sym (and_assoc (made 0) (eqb x y) (pointwise eqb xs ys))
    ∙ (λ t. sym (more 0 (omega arith)) t && pointwise eqb xs ys)
    ∙ made-same xs ys n (λ (j : ℕ). made (suc j)) (omega (arith, p)) (omega (arith, q)) (λ j h. more (suc j) (omega arith))

-- a second's cells, as they are read and worked out
module _ (o : Opening) (c : Buffers) (k : ℕ) (h : k < o.second_count) (limits : WithinLimits o c) where
  pub second-same : (held given : List ℕ) → length held ≡ width → length given ≡ width → held ≡ block_or_none c.seconds k
      → given ≡ second_from c.rows (o.first_second + k) (min o.highest_number (length c.rows / width))
      → pointwise eqb held given ≡ cells_right o c k width
  unfolding cells_right
  second-same held given p q e f =
      made-same held given width (cells_right o c k) p q (λ j l t. cells_right o c k j
      && eqb (sym (read j l) t) (sym (worked j l) t))
    where
      read : (j : ℕ) → j < width → get_or held j 0 ≡ cell c.seconds k j
      read j l =
          ap (λ (b : List ℕ). get_or b j 0) (e ∙ block_read c.seconds o.second_count k limits.seconds-long h)
          ∙ block-at c.seconds k j l

      worked : (j : ℕ) → j < width → get_or given j 0 ≡ cell_from c.rows (o.first_second + k) j o.highest_number
      worked j l =
          ap (λ (b : List ℕ). get_or b j 0)
          (f ∙ ap (second_from c.rows (o.first_second + k)) (all-rows c.rows o.highest_number limits.rows_long))
          ∙ second_at c.rows (o.first_second + k) o.highest_number j l
