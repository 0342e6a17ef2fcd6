-- The buffers of cells that a caller lends to every call of the index. FORMAT, "The index of seconds".
use Rattle.std.specs.Prelude.{ℕ, List}

-- the rows, by record number, and the seconds of the window
pub record Buffers : Type 0 where
  pub rows : List ℕ
  pub seconds : List ℕ

abbrev pub lent : List ℕ → List ℕ → Buffers
lent rows seconds = record { rows = rows; seconds = seconds }
