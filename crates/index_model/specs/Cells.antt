-- The cells of the index: for each record number its row, and for each second of the window as many. FORMAT, "The index of
-- seconds". A row and a second have the same cells, and each cell of a second is the sum, or the greatest, of that cell over
-- the rows of its records; no rows give 0. Sums are modulo 2^32, since a cell has 32 bits.
--
--   0 records, 1 in a row               5c - 1      channel c (1 to 4): 128 less the least sample
--   1 records with clock origin 1       5c, 5c + 1  sum of (sample + 128), sum of squares
--   2 records with copy error 1         5c + 2      clipped samples
--   3 the second                        5c + 3      the greatest sample plus 129
use Rattle.std.specs.Prelude.{ℕ, zero, suc, ◌+◌, ◌-◌, ◌*◌, ◌/◌, ◌%◌, max, Bool, true, false, cond, not, ◌&&◌, List, [], ◌∷◌, ◌++◌, eqb, ltb, ℤ, pos, negsuc, ◌+ℤ◌, ◌-ℤ◌, length, get_or, take, drop}
use Rattle.lists.specs.Fill.{tab}
use Rattle.totals.specs.declared.Total.{Total}
use Rattle.totals.specs.Total.{totals_of}
use Rattle.index_model.specs.Records.{Record, second_of, has_origin, has_error, stretch_in}

-- cells in a row, and in a second
abbrev pub width : ℕ
width = 24

-- of them those before the channels', and then those of each channel
abbrev pub head_width : ℕ
head_width = 4

abbrev pub channel_width : ℕ
channel_width = 5

-- cell j (0 to 4) of channel c (1 to 4), and what is there
abbrev pub channel_cell : ℕ → ℕ → ℕ
channel_cell c j = head_width + channel_width * (c - 1) + j

abbrev pub least_at : ℕ
least_at = 0

abbrev pub sum_at : ℕ
sum_at = 1

abbrev pub squares_at : ℕ
squares_at = 2

abbrev pub clipped_at : ℕ
clipped_at = 3

abbrev pub greatest_at : ℕ
greatest_at = 4

-- a cell is less than this
abbrev pub cell_limit : ℕ
cell_limit = 4294967296

-- cell j of row (or second) i, counted from 0
abbrev pub cell : List ℕ → ℕ → ℕ → ℕ
cell cells i j = get_or cells (width * i + j) 0

-- the cells of row (or second) i, and all cells with those replaced
abbrev pub block_at : List ℕ → ℕ → List ℕ
block_at cells i = take width (drop (width * i) cells)

unfoldable pub with_block : List ℕ → ℕ → List ℕ → List ℕ
with_block cells i block = take (width * i) cells ++ (block ++ drop width (drop (width * i) cells))

-- ## the row of a record

-- a signed number from 0 up, as a cell holds it
abbrev pub nat_of : ℤ → ℕ
nat_of (pos n) = n
nat_of (negsuc n) = 0

-- what makes a sample, and 0 less a sample, a number from 0 up; and a sample a number from 1 up
abbrev pub sample_offset : ℕ
sample_offset = 128

abbrev pub greatest_offset : ℕ
greatest_offset = sample_offset + 1

-- the cells of a channel's total over n samples
abbrev pub channel_cells : ℕ → Total → List ℕ
channel_cells n t =
    nat_of (pos sample_offset -ℤ t.least) ∷ nat_of (t.sum +ℤ pos (sample_offset * n)) ∷ t.squares ∷ t.clipped
    ∷ nat_of (t.greatest +ℤ pos greatest_offset) ∷ []

abbrev pub all_channel_cells : ℕ → List Total → List ℕ
all_channel_cells n [] = []
all_channel_cells n (t ∷ ts) = channel_cells n t ++ all_channel_cells n ts

abbrev pub flag : Bool → ℕ
flag b = cond b 1 0

-- the samples of each channel that a stretch holds, and the cells of the four channels; the stretch of an accepted record holds
-- as many as its rate says
abbrev pub samples_in : List ℕ → ℕ
samples_in stretch = length stretch / 4

abbrev pub stretch_cells : List ℕ → List ℕ
stretch_cells stretch = all_channel_cells (samples_in stretch) (totals_of stretch (samples_in stretch))

unfoldable pub row_of : Record → List ℕ
row_of b = 1 ∷ flag (has_origin b) ∷ flag (has_error b) ∷ second_of b ∷ stretch_cells (stretch_in b)

-- the row of a number that is not held
abbrev pub no_row : List ℕ
no_row = tab (λ (j : ℕ). 0) 0 width

-- ## the cells of a second

-- of every five cells from cell 0 on the first three are sums, and the other two hold the greatest: the second, and a channel's
-- first and last
unfoldable pub is_greatest : ℕ → Bool
is_greatest j = ltb 2 (j % channel_width)

unfoldable pub merge_by : Bool → ℕ → ℕ → ℕ
merge_by true a b = max a b
merge_by false a b = (a + b) % cell_limit

abbrev pub merge : ℕ → ℕ → ℕ → ℕ
merge j a b = merge_by (is_greatest j) a b

-- a second's cells with a row's added
unfoldable pub merged : List ℕ → List ℕ → List ℕ
merged second row = tab (λ (j : ℕ). merge j (get_or second j 0) (get_or row j 0)) 0 width

-- row i is held, and of second s
unfoldable pub row_within : List ℕ → ℕ → ℕ → Bool
row_within rows i s = not (eqb (cell rows i 0) 0) && eqb (cell rows i 3) s

abbrev pub merge_if : Bool → ℕ → ℕ → ℕ → ℕ
merge_if true j a x = merge j a x
merge_if false j a x = a

-- cell j of second s, from the first n rows
unfoldable pub cell_from : List ℕ → ℕ → ℕ → ℕ → ℕ
cell_from rows s j zero = 0
cell_from rows s j (suc i) = merge_if (row_within rows i s) j (cell_from rows s j i) (cell rows i j)

-- all cells of second s, from the first n rows
unfoldable pub second_from : List ℕ → ℕ → ℕ → List ℕ
second_from rows s n = tab (λ (j : ℕ). cell_from rows s j n) 0 width
