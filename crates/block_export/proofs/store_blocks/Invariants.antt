use mathlib.Core.Path.{◌≡◌}
use mathlib.Core.List.{◌++◌}
use Prim.Native.Nat.{◌*◌}
use lib.ListN.{drop}
use Rattle.block_layout.specs.Layout.{blocks}
use Rattle.block_check.specs.Check.{block_bytes}
use Rattle.block_export.proofs.store_blocks.Given as goal

abbrev pub invariant-loop-i : goal.invariant-loop-i
invariant-loop-i l = l.out ≡ blocks l.source l.i ++ drop (block_bytes * l.i) l.initial.out
