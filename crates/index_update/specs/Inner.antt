-- What the library's own functions here ask of each other; no public promise cites this.
use Rattle.std.specs.Prelude.{ℕ, ◌+◌, ◌≤◌, ◌<◌}
use Rattle.index_model.specs.declared.Opening.{Opening}

-- a second of the window
pub record Placed (o : Opening) (second : ℕ) : Type 0 where
  pub from : o.first_second ≤ second
  pub until : second < o.first_second + o.second_count
