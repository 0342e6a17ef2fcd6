use mathlib.Core.Path.{◌≡◌, refl, sym, ◌∙◌}
use mathlib.Core.List.{List, ◌++◌}
use Prim.Native.Nat.{ℕ, ◌+◌, ◌*◌, ◌-◌}
use native.Mathlib.Numerals.{add-one}
use native.Mathlib.Omega.{arith}
use lib.ListN.{drop}
use borrow.Rule.Slice.PartMut.{put_mid}
use Rattle.block_layout.specs.Layout.{blocks, block_of}
use Rattle.block_layout.proofs.Exported.{length-blocks}
use Rattle.lists.proofs.Parts.{part-after}
use Rattle.block_check.specs.Check.{block_bytes}
use Rattle.block_export.proofs.store_blocks.Goals as goal

-- the buffer after one block more
more : (r before out new : List ℕ) (i : ℕ) → out ≡ blocks r i ++ drop (block_bytes * i) before → new ≡ block_of r i
    → put_mid (block_bytes * i) (block_bytes * i + block_bytes - block_bytes * i) out new
    ≡ blocks r (i + 1) ++ drop (block_bytes * (i + 1)) before
unfolding blocks
more r before out new i far one =
    let k : block_bytes * i + block_bytes - block_bytes * i ≡ block_bytes = omega arith in
    let e : block_bytes * i + block_bytes ≡ block_bytes * (i + 1) = omega arith in
    (λ t. put_mid (block_bytes * i) (k t) (far t) (one t))
    ∙ part-after (blocks r i) (block_of r i) before (block_bytes * i) block_bytes (length-blocks r i)
    ∙ (λ t. blocks r (sym (add-one i) t) ++ drop (e t) before)

pub loop-i-init : goal.loop-i-init
unfolding blocks
loop-i-init c = refl

pub loop-i-preserved : goal.loop-i-preserved
loop-i-preserved c =
    more c.args.source.now c.args.out.now c.loop-i.out c.store_block.new.block c.loop-i.i c.loop-i.invariant c.store_block.ensures
