use Prim.Native.Nat.{ℕ, ◌*◌, ◌≤◌}
use mathlib.Core.Path.{◌≡◌}
use mathlib.Core.List.{List}
use native.Mathlib.Omega.{arith}
use lib.ListN.{length}
use Rattle.sample_rates.specs.Rates.{most_samples}
use Rattle.totals.specs.declared.Total.{Total}
use Rattle.totals.specs.Total.{totals_of, set_count}
use Rattle.totals.specs.Running.{total_at}
use Rattle.index_model.specs.Cells.{samples_in}
use Rattle.index_row.specs.Row.{Bounded}
use Rattle.index_row.proofs.Samples.{all-totals, totals-bounded}
use Rattle.index_row.proofs.stretch_row.Goals as goal

-- each of the four totals is bounded, whichever of them a channel's cells are made of
module _ (stretch : List ℕ) {totals : List Total} (short : length stretch ≤ 4 * most_samples)
    (e : totals ≡ totals_of stretch (set_count stretch)) where
  each : (channel : ℕ) → 1 ≤ channel → channel ≤ 4 → Bounded (samples_in stretch) (total_at totals channel)
  each = totals-bounded stretch _ (all-totals stretch short e) (omega (arith, short))

  first : Bounded (samples_in stretch) (total_at totals 1)
  first = each 1 (omega arith) (omega arith)

  second : Bounded (samples_in stretch) (total_at totals 2)
  second = each 2 (omega arith) (omega arith)

  third : Bounded (samples_in stretch) (total_at totals 3)
  third = each 3 (omega arith) (omega arith)

  fourth : Bounded (samples_in stretch) (total_at totals 4)
  fourth = each 4 (omega arith) (omega arith)

pub channel_cells-requires : goal.channel_cells-requires
channel_cells-requires c = search (first, second, third, fourth)

pub channel_cells-requires-2 : goal.channel_cells-requires-2
channel_cells-requires-2 c = search (first, second, third, fourth)

pub channel_cells-requires-3 : goal.channel_cells-requires-3
channel_cells-requires-3 c = search (first, second, third, fourth)

pub channel_cells-requires-4 : goal.channel_cells-requires-4
channel_cells-requires-4 c = search (first, second, third, fourth)
