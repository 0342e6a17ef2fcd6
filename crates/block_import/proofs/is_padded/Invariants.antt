-- The bytes of the padding so far are 0.
use mathlib.Core.Path.{◌≡◌}
use lib.Dec.{eqb}
use lib.ListN.{take}
use Rattle.std.specs.List.{list_all}
use Rattle.block_import.proofs.is_padded.Given as goal

abbrev pub invariant-loop-byte : goal.invariant-loop-byte
invariant-loop-byte l = l.padded ≡ list_all (λ x. eqb x 0) (take l.byte-index l.padding)
