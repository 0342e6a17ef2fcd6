-- The means of some samples, as the code divides. Assumes nothing.
use mathlib.Core.Path.{◌≡◌}
use Prim.Native.Nat.{ℕ, ◌≤◌, ◌<◌}
use native.Mathlib.Nat.{pos_of_ne-zero}
use lib.IntN.{pos}
use lib.Ieee.{binary64, of_int, div}
use borrow.Author.Tests.{ne_eqb}
use Rattle.totals.specs.declared.Total.{Total}
use Rattle.floats.specs.Whole.{exact_limit, quotient_of}
use Rattle.floats.proofs.Quotient.{whole-quotient}
use Rattle.index_query.specs.Exact.{ExactTotal}
use Rattle.index_means.specs.declared.Means.{Means}
use Rattle.index_means.specs.Means.{means_of}

means-some : (total : Total) (count : ℕ) → (count ≡ 0 → ⊥)
    → means_of total count ≡ record {
      mean =
          quotient_of total.sum count;
      mean_square = quotient_of (pos total.squares) count;
    }
unfolding means_of
means-some total count h = rw (ne_eqb count 0 h)

-- the sum and the squares over the count, all three of them held exactly
pub divided : (total : Total) (count : ℕ) → ExactTotal total → count ≤ exact_limit → (count ≡ 0 → ⊥)
    → ◌≡◌ {A =
    Means} (record {
      mean = div binary64 (of_int binary64 total.sum)
          (of_int binary64 (pos count));
      mean_square = div binary64 (of_int binary64 (pos total.squares))
          (of_int binary64 (pos count));
    }) (means_of total count)
divided total count exact few h =
    let p : 0 < count = pos_of_ne-zero h in
    rw (
      whole-quotient total.sum count exact.sums p few,
      whole-quotient (pos total.squares) count
          exact.squared p few,
      means-some total count h,
    )
