use Prim.Native.Nat.{◌+◌, ◌*◌}
use native.Mathlib.Omega.{arith}
use borrow.Author.Rules.{rules}
use Rattle.channels.specs.Sample.{channel_of}
use Rattle.channels.proofs.Interleave.{bytes-more, bytes-all}
use Rattle.channels.proofs.store_sets.Goals as goal

pub loop-k-preserved : goal.loop-k-preserved
unfolding channel_of
loop-k-preserved c =
    let k = c.loop-k.k in
    bytes-more _ _ _ _ (4 * k + 3) (4 * (k + 1)) k 3 (search rules) c.store-in-loop-k-3.ensures
    (bytes-more _ _ _ _ (4 * k + 2) (4 * k + 3) k 2 (search rules) c.store-in-loop-k-2.ensures
    (bytes-more _ _ _ _ (4 * k + 1) (4 * k + 2) k 1 (search rules) c.store-in-loop-k.ensures
    (bytes-more _ _ _ _ (4 * k) (4 * k + 1) k 0 (search rules) c.store.ensures
    c.loop-k.invariant)))

pub returns : goal.returns
returns c = bytes-all _ _ _ _ _ _ (omega arith) (omega arith) c.loop-k.invariant
