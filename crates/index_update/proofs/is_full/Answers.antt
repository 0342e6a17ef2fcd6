use native.Mathlib.Omega.{arith}
use mathlib.Core.Bool.{Bool, true, false}
use Prim.Native.Nat.{◌≤◌}
use mir.Val.{bool_byte}
use Rattle.index_model.proofs.Limits.{full-most}
use Rattle.index_update.proofs.is_full.Goals as goal

one-most : (b : Bool) → bool_byte b ≤ 1
one-most true = omega arith
one-most false = omega arith

pub overflow_add-result : goal.overflow_add-result
overflow_add-result c = omega (arith, full-most c.args.o, c.full_count.ensures, c.from-own.ensures, one-most c.row_within.result)
