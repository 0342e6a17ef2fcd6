-- Laws of the pass over the rows: one row more, passed. Assumes nothing.
use Prim.Native.Nat.{ℕ, ◌+◌}
use mathlib.Core.Path.{◌≡◌, ap, sym, ◌∙◌}
use mathlib.Core.Bool.{Bool, true, false, cond}
use mathlib.Core.List.{List}
use native.Mathlib.Numerals.{add-one}
use Rattle.index_model.specs.Cells.{block_at, no_row, merged, row_within, second_from}
use Rattle.index_model.proofs.Seconds.{second_none, second-next}

-- no row passed
pub none_passed : (rows : List ℕ) (s : ℕ) → no_row ≡ second_from rows s 0
none_passed rows s = sym (second_none rows s)

-- one row more: merged where it is held and of the second, else not
module _ (rows : List ℕ) (s i : ℕ) where
  row-passed : {t : Bool} → row_within rows i s ≡ t
      → cond t (merged (second_from rows s i) (block_at rows i)) (second_from rows s i) ≡ second_from rows s (i + 1)
  row-passed e =
      sym (second-next rows s i ∙ (λ j. cond (e j) (merged (second_from rows s i) (block_at rows i)) (second_from rows s i)))
      ∙ ap (second_from rows s) (sym (add-one i))

  pub row-merged : row_within rows i s ≡ true → merged (second_from rows s i) (block_at rows i) ≡ second_from rows s (i + 1)
  row-merged = row-passed

  pub row-skipped : row_within rows i s ≡ false → second_from rows s i ≡ second_from rows s (i + 1)
  row-skipped = row-passed
