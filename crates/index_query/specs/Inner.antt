-- What the library's own functions here promise to each other; no public promise cites this.
use Rattle.std.specs.Prelude.{ℕ, ◌*◌}
use Rattle.sample_rates.specs.Rates.{most_samples}
use Rattle.index_model.specs.Cells.{cell_limit}

-- no second has more samples of a channel, whatever its cells hold
abbrev pub sample_limit : ℕ
sample_limit = cell_limit * most_samples
