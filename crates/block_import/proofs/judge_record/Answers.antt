use mathlib.Core.Path.{◌≡◌, ap, sym, ◌∙◌}
use Prim.Native.Nat.{ℕ, ◌+◌, ◌-◌, ◌<◌}
use native.Mathlib.Omega.{arith}
use lib.ListN.{get_or, take, drop, length-take}
use Rattle.record.specs.Record.{front_refusal}
use Rattle.record.proofs.Front.{front-enough}
use Rattle.block_check.specs.Check.{block_bytes, payload_bytes}
use Rattle.block_layout.specs.Carried.{block_at, length_in, carried_of}
use Rattle.block_layout.proofs.Carrying.{some, payload-inside, carried-front}
use Rattle.block_import.proofs.judge_record.Goals as goal
use Rattle.block_import.proofs.judge_record.Goals.{After-word_at-end}

-- the payload length of block 0, as it is read
size : (c : After-word_at-end) → c.word_at-end.result ≡ length_in (block_at c.args.blocks.bytes.now 0)
unfolding block_at
size c = c.word_at-end.ensures.0

pub slice_bounds-judge_front-end : goal.slice_bounds-judge_front-end
slice_bounds-judge_front-end c =
    let s = c.args.blocks.bytes.now in
    let small : (j : ℕ) → get_or s j 0 < 256 = c.args.blocks.small in
    let least = some s small c.args.blocks.checked c.args.blocks.laid_out in
    omega (arith, size (goal.at.slice_bounds-judge_front-end c).After-word_at-end, least, length-take block_bytes s, (payload-inside s small c.args.blocks.checked c.args.blocks.laid_out 0 least).0)

pub returns : goal.returns
unfolding block_at
returns c =
    let a = c.args in
    let s = a.blocks.bytes.now in
    let e : 6 + c.word_at-end.result - 6 ≡ length_in (block_at s 0) = omega (arith, size (goal.at.returns c).After-word_at-end) in
    let front = ap (λ (m : ℕ). take m (drop 6 (block_at s 0))) e ∙ sym (carried-front s c.args.blocks.small c.args.blocks.checked c.args.blocks.laid_out) in
    c.judge_front.ensures ∙ (λ t. front_refusal a.edition (front t) (c.requires t))
    ∙ sym (front-enough a.edition payload_bytes (carried_of s) (omega arith))

pub slice_bounds-first-end : goal.slice_bounds-first-end
slice_bounds-first-end c =
    let s = c.args.blocks.bytes.now in
    omega (arith, length-take block_bytes s, some s c.args.blocks.small c.args.blocks.checked c.args.blocks.laid_out)
