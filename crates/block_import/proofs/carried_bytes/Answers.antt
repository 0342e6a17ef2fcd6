use mathlib.Core.Path.{ap, sym, ◌∙◌}
use Prim.Native.Nat.{ℕ, ◌+◌, ◌-◌, ◌*◌}
use native.Mathlib.Omega.{arith}
use Rattle.block_check.specs.Check.{payload_bytes}
use Rattle.block_layout.specs.Carried.{whole_blocks, length_in}
use Rattle.block_layout.proofs.Carrying.{some, length-all}
use Rattle.block_import.proofs.Parts.{block-part}
use Rattle.block_import.proofs.carried_bytes.Goals as goal

pub returns : goal.returns
returns c =
    let s = c.args.blocks.bytes.now in
    let last = whole_blocks s - 1 in
    ap (λ (x : ℕ). payload_bytes * last + x) (c.word_at.ensures.0 ∙ ap length_in (block-part s last))
    ∙ sym (length-all s c.args.blocks.small c.args.blocks.checked c.args.blocks.laid_out)

pub overflow_sub-last : goal.overflow_sub-last
overflow_sub-last c = omega (arith, some c.args.blocks.bytes.now c.args.blocks.small c.args.blocks.checked c.args.blocks.laid_out)

pub slice_bounds-word_at-end : goal.slice_bounds-word_at-end
slice_bounds-word_at-end c = omega (arith, some c.args.blocks.bytes.now c.args.blocks.small c.args.blocks.checked c.args.blocks.laid_out)
