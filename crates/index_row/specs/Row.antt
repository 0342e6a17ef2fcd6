-- What the library's own functions here ask of each other and promise. FORMAT, "The index of seconds".
use Rattle.std.specs.Prelude.{ℕ, ◌*◌, ◌≤◌, List, nat_abs}
use Rattle.sample_rates.specs.Rates.{most_samples}
use Rattle.totals.specs.declared.Total.{Total}
use Rattle.totals.specs.Running.{total_at}
use Rattle.index_model.specs.Cells.{sample_offset}

-- the total of n samples, no more than a record has
pub record Bounded (n : ℕ) (t : Total) : Type 0 where
  pub few : n ≤ most_samples
  pub sums : nat_abs t.sum ≤ sample_offset * n
  pub squared : t.squares ≤ sample_offset * sample_offset * n

-- so are the totals of the four channels
abbrev pub AllBounded : ℕ → List Total → Type 0
AllBounded n totals = (channel : ℕ) → 1 ≤ channel → channel ≤ 4 → Bounded n (total_at totals channel)
