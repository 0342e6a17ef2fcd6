use Rattle.std.proofs.Common.{◌≡◌, ◌*◌, ◌≤◌}
use Rattle.block_check.specs.Check.{covered, weighted}
use Rattle.block_check.proofs.check.Given as goal

abbrev pub invariant-loop-k : goal.invariant-loop-k
invariant-loop-k l = record { most : l.sum ≤ 255 * covered * l.k; so_far : l.sum ≡ weighted l.bytes l.k }
