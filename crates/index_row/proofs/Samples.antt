-- The sample stretch of any bytes is no longer than a record's, and its totals are bounded. Assumes nothing.
use Prim.Native.Nat.{ℕ, zero, suc, ◌*◌, ◌≤◌, ◌<◌}
use mathlib.Core.Path.{◌≡◌, ap, sym, subst, ◌∙◌}
use mathlib.Core.List.{List}
use native.Mathlib.Omega.{arith}
use lib.IntN.{ℤ}
use lib.ListN.{length, length-take}
use Rattle.lists.proofs.Fill.{length-tab}
use Rattle.bits.proofs.Bits.{get_bits-lt}
use Rattle.channels.specs.Sample.{sample_of, samples_of}
use Rattle.fields.specs.Field.{start, bit_width, value_of}
use Rattle.header.specs.Rows.{time_tag}
use Rattle.sample_rates.specs.Rates.{most_samples}
use Rattle.record.specs.Stretch.{stretch_of}
use Rattle.record.proofs.Count.{count_small}
use Rattle.totals.specs.declared.Total.{Total}
use Rattle.totals.specs.Total.{total_of, totals_of, set_count}
use Rattle.totals.proofs.Samples.{samples-bytes}
use Rattle.totals.proofs.Sums.{sum_bound, squares-bound}
use Rattle.index_model.specs.Cells.{cell_limit, samples_in}
use Rattle.index_row.specs.Row.{Bounded, AllBounded}

pub stretch-most : (n : ℕ) (b : List ℕ) → length (stretch_of n b) ≤ 4 * most_samples
unfolding stretch_of
stretch-most n b = simp length-take (omega (arith, count_small n b))

pub tag_small : (b : List ℕ) → value_of time_tag b < cell_limit
unfolding value_of
tag_small b = omega (arith, get_bits-lt (start time_tag) (bit_width time_tag) b)

-- a channel's total over n samples
module _ (stretch : List ℕ) (channel n : ℕ) where
  abbrev samples : List ℤ
  samples = samples_of stretch channel n

  samples-length : length samples ≡ n
  samples-length = length-tab (sample_of stretch channel) 0 n

  total-bounded : n ≤ most_samples → Bounded n (total_of samples)
  unfolding total_of
  total-bounded few =
      record {
        few = few;
        sums = omega (arith, sum_bound samples (samples-bytes stretch channel n), samples-length);
        squared = omega (arith, squares-bound samples (samples-bytes stretch channel n), samples-length);
      }

-- the totals of the four channels
all-bounded : (stretch : List ℕ) (n : ℕ) → n ≤ most_samples → AllBounded n (totals_of stretch n)
unfolding totals_of
all-bounded stretch n few zero p q = absurd (let z : ⊥ = omega arith in z)
all-bounded stretch n few (suc zero) p q = total-bounded stretch 1 n few
all-bounded stretch n few (suc (suc zero)) p q = total-bounded stretch 2 n few
all-bounded stretch n few (suc (suc (suc zero))) p q = total-bounded stretch 3 n few
all-bounded stretch n few (suc (suc (suc (suc zero)))) p q = total-bounded stretch 4 n few
all-bounded stretch n few (suc (suc (suc (suc (suc k))))) p q = absurd (let z : ⊥ = omega arith in z)

pub totals-bounded : (stretch : List ℕ) (n : ℕ) {totals : List Total} → totals ≡ totals_of stretch n → n ≤ most_samples
    → AllBounded n totals
totals-bounded stretch n e few = subst (AllBounded n) (sym e) (all-bounded stretch n few)

-- the totals over a record's stretch are those over all its samples
pub all-totals : (stretch : List ℕ) {totals : List Total} → length stretch ≤ 4 * most_samples
    → totals ≡ totals_of stretch (set_count stretch) → totals ≡ totals_of stretch (samples_in stretch)
all-totals stretch short e = e ∙ ap (totals_of stretch) (omega arith)
