use Prim.Native.Nat.{ℕ, ◌*◌, ◌≤◌}
use mathlib.Core.Path.{sym, subst}
use mathlib.Core.List.{List}
use lib.ListN.{length}
use Rattle.sample_rates.specs.Rates.{most_samples}
use Rattle.index_row.proofs.Samples.{stretch-most}
use Rattle.index_row.proofs.row_of.Goals as goal

pub stretch_row-requires : goal.stretch_row-requires
stretch_row-requires c = subst (λ (l : List ℕ). length l ≤ 4 * most_samples) (sym c.sample_stretch.ensures) (stretch-most _ _)
