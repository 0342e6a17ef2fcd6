-- A row or a second read and replaced in any buffer whatever, also one that is too short for it. FORMAT, "The index of seconds".
-- Only the library's own functions cite this: calls judge 13 and 14 first.
use Rattle.std.specs.Prelude.{ℕ, ◌/◌, Bool, cond, List, ltb, length}
use Rattle.index_model.specs.Cells.{width, block_at, with_block, no_row}

-- the buffer holds all cells of row (or second) i
abbrev pub holds_block : List ℕ → ℕ → Bool
holds_block cells i = ltb i (length cells / width)

-- those cells, or zeros
unfoldable pub block_or_none : List ℕ → ℕ → List ℕ
block_or_none cells i = cond (holds_block cells i) (block_at cells i) no_row

-- the buffer with those cells replaced, or as it was
unfoldable pub block_put : List ℕ → ℕ → List ℕ → List ℕ
block_put cells i block = cond (holds_block cells i) (with_block cells i block) cells
