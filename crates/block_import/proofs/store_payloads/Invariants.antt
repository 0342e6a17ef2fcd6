use mathlib.Core.Path.{◌≡◌}
use mathlib.Core.List.{◌++◌}
use lib.ListN.{length, drop}
use Rattle.block_layout.specs.Carried.{carried}
use Rattle.block_import.proofs.store_payloads.Given as goal

abbrev pub invariant-loop-i : goal.invariant-loop-i
invariant-loop-i l = l.out ≡ carried l.fn.blocks.bytes.now l.i ++ drop (length (carried l.fn.blocks.bytes.now l.i)) l.initial.out
