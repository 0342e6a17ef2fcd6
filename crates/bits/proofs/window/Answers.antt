-- The loop over the bytes of a window: the invariant says the number made so far.
use mathlib.Core.Path.{◌≡◌, sym}
use Prim.Native.Nat.{◌+◌, ◌*◌}
use lib.ListN.{get_or}
use native.Mathlib.Omega.{arith}
use Rattle.bits.proofs.Reading.{more, within, none}
use Rattle.bits.proofs.window.Goals as goal

pub loop-k-init : goal.loop-k-init
loop-k-init c = sym (none (8 * c.args.from) c.args.bytes.now)

pub overflow_mul-x : goal.overflow_mul-x
overflow_mul-x c =
    let a = c.args in
    omega (arith, within 56 (8 * a.from) (8 * c.loop-k.k) a.bytes.now (omega arith))

pub overflow_add-x : goal.overflow_add-x
overflow_add-x c =
    let a = c.args in
    omega (arith, within 56 (8 * a.from) (8 * c.loop-k.k) a.bytes.now (omega arith))

pub loop-k-preserved : goal.loop-k-preserved
loop-k-preserved c =
    let a = c.args in
    let e : c.byte_at.result ≡ get_or a.bytes.now (a.from + c.loop-k.k) 0 = c.byte_at.ensures.0 in
    omega (arith, e, more a.from c.loop-k.k a.bytes.now (omega (arith, e)))
