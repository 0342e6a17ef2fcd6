use mathlib.Core.Path.{◌≡◌}
use Rattle.totals.specs.Running.{runnings_of}
use Rattle.totals.proofs.sum_sets.Given as goal

abbrev pub invariant-loop-k : goal.invariant-loop-k
invariant-loop-k l = l.totals ≡ runnings_of l.stretch l.k
