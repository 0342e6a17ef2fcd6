use mathlib.Core.Path.{◌≡◌, sym}
use Prim.Native.Nat.{◌<◌}
use native.Mathlib.Omega.{arith}
use lib.ListN.{length}
use borrow.Author.Rules.{rules}
use Rattle.std.proofs.lemmas.Grind.{common_steps}
use Rattle.record.proofs.Accepted.{length-bounds}
use Rattle.block_layout.specs.Layout.{block_count, block_of, exported_of}
use Rattle.block_layout.specs.Carried.{block_at}
use Rattle.block_layout.specs.Refusals.{block_refusal}
use Rattle.block_layout.proofs.Exported.{length-block, block_in}
use Rattle.block_export.proofs.export_block.Goals as goal
use Rattle.block_export.proofs.export_block.Goals.{Else-index-block_count}

-- the record has such a block, and it is the one that is stored
inside : (c : Else-index-block_count) → c.args.index < block_count (length c.args.source.now)
inside c = omega (arith, c.block_count.ensures, c.if-index-block_count.false)

part : (c : Else-index-block_count) → let r = c.args.source.now in block_at (exported_of r) c.args.index ≡ block_of r c.args.index
part c = let r = c.args.source.now in block_in r (block_count (length r)) c.args.index (inside c)

pub store_block-requires : goal.store_block-requires
store_block-requires c =
    let a = c.args in
    (search rules, omega (arith, inside (goal.at.store_block-requires c).Else-index-block_count), (length-bounds a.edition a.source.now (sym c.in_ok-judge.ensures)).1)

pub returns : goal.returns
unfolding block_refusal
returns c =
    let w = (goal.at.returns c).Else-index-block_count in
    let p = part w in
    let h = inside w in
    let s = length-block c.args.source.now c.args.index in
    record { result_value = grind (arith, common_steps); out_after = grind (arith, common_steps) }
