-- The cells of a record's row, by their places. Assumes nothing.
use Prim.Native.Nat.{ℕ, zero, suc, ◌+◌, ◌*◌, ◌%◌, ◌<◌, ◌≤◌}
use mathlib.Core.Path.{◌≡◌, refl, ap, ◌∙◌}
use mathlib.Core.List.{List, [], ◌∷◌, ◌++◌}
use mathlib.Core.Option.{Option, none, some}
use native.Mathlib.Omega.{arith}
use lib.Dec.{ltb}
use lib.ListN.{get_or, length, get_or-append}
use lib.Seq.{get_or-append-add}
use Rattle.lists.specs.Fill.{tab}
use Rattle.lists.proofs.Fill.{get_or-tab}
use Rattle.channels.specs.Sample.{samples_of}
use Rattle.totals.specs.declared.Total.{Total}
use Rattle.totals.specs.Total.{no_total, total_of, totals_of}
use Rattle.index_model.specs.Records.{stretch_in, Record, second_of, has_origin, has_error}
use Rattle.index_model.specs.Cells.{
  width,
  channel_width,
  channel_cell,
  samples_in,
  channel_cells,
  all_channel_cells,
  flag,
  row_of,
  no_row,
  is_greatest,
}

-- the row of what a number has
abbrev pub row_for : Option Record → List ℕ
row_for none = no_row
row_for (some b) = row_of b

module _ (b : Record) where
  pub row-length : length (row_of b) ≡ width
  unfolding row_of totals_of
  row-length = refl

  pub row-records : get_or (row_of b) 0 0 ≡ 1
  unfolding row_of
  row-records = refl

  pub row-origin : get_or (row_of b) 1 0 ≡ flag (has_origin b)
  unfolding row_of
  row-origin = refl

  pub row-error : get_or (row_of b) 2 0 ≡ flag (has_error b)
  unfolding row_of
  row-error = refl

  pub row-second : get_or (row_of b) 3 0 ≡ second_of b
  unfolding row_of
  row-second = refl

-- the cells of one channel among those of all
at-channel : (n : ℕ) (ts : List Total) (k i : ℕ) → k < length ts → i < channel_width
    → get_or (all_channel_cells n ts) (channel_width * k + i) 0
    ≡ get_or (channel_cells n (get_or ts k no_total)) i 0
at-channel n [] k i h q = absurd (let z : ⊥ = omega arith in z)
at-channel n (t ∷ ts) zero i h q =
    ap (λ (a : ℕ). get_or (channel_cells n t ++ all_channel_cells n ts) a 0) (let z : channel_width * 0 + i ≡ i = omega arith in z)
    ∙ get_or-append (channel_cells n t) (all_channel_cells n ts) 0 i q
at-channel n (t ∷ ts) (suc k) i h q =
    ap (λ (a : ℕ). get_or (channel_cells n t ++ all_channel_cells n ts) a 0)
    (let z : channel_width * suc k + i ≡ channel_width + (channel_width * k + i) = omega arith in z)
    ∙ get_or-append-add (channel_cells n t) (all_channel_cells n ts) (channel_width * k + i) 0
    ∙ at-channel n ts k i (omega arith) q

of_four : {A : Type 0} (f : ℕ → A) (d : A) (k : ℕ) → k < 4 → get_or (tab f 1 4) k d ≡ f (suc k)
of_four f d zero h = refl
of_four f d (suc zero) h = refl
of_four f d (suc (suc zero)) h = refl
of_four f d (suc (suc (suc zero))) h = refl
of_four f d (suc (suc (suc (suc k)))) h = absurd (let z : ⊥ = omega arith in z)

-- the cells of a channel (1 to 4)
pub row-channel : (b : Record) (c i : ℕ) → 1 ≤ c → c ≤ 4 → i < channel_width
    → get_or (row_of b) (channel_cell c i) 0
    ≡ get_or (channel_cells (samples_in (stretch_in b)) (total_of (samples_of (stretch_in b) c (samples_in (stretch_in b))))) i 0
unfolding row_of totals_of
row-channel b zero i p q r = absurd (let z : ⊥ = omega arith in z)
row-channel b (suc k) i p q r =
    ap (λ (a : ℕ). get_or (row_of b) a 0)
    (let z : channel_cell (suc k) i ≡ suc (suc (suc (suc (channel_width * k + i)))) = omega arith in z)
    ∙ at-channel (samples_in (stretch_in b)) (totals_of (stretch_in b) (samples_in (stretch_in b))) k i (omega arith) r
    ∙ ap (λ (t : Total). get_or (channel_cells (samples_in (stretch_in b)) t) i 0)
    (of_four (λ (c : ℕ). total_of (samples_of (stretch_in b) c (samples_in (stretch_in b)))) no_total k (omega arith))

-- a channel's cells hold a sum or the greatest as those of channel 1 do
pub channel-kind : (c i : ℕ) → is_greatest (channel_cell c i) ≡ is_greatest (channel_cell 1 i)
unfolding is_greatest
channel-kind c i = ap (ltb 2) (let z : channel_cell c i % channel_width ≡ channel_cell 1 i % channel_width = omega arith in z)

-- a number that is not held has 0 in every cell
pub no-row : (j : ℕ) → j < width → get_or no_row j 0 ≡ 0
no-row j h = get_or-tab (λ (k : ℕ). 0) width j 0 h

pub row-for-length : (held : Option Record) → length (row_for held) ≡ width
row-for-length none = refl
row-for-length (some b) = row-length b
