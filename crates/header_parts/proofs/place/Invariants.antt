-- The values so far are placed.
use Rattle.std.proofs.Common.{◌≡◌}
use Rattle.header_parts.specs.Parts.{placed}
use Rattle.header_parts.proofs.place.Given as goal

abbrev pub invariant-loop-k : goal.invariant-loop-k
invariant-loop-k l = l.values ≡ placed 0 l.k l.at l.value-items l.initial.values
