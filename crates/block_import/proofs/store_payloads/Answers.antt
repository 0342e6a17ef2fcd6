use mathlib.Core.Path.{◌≡◌, refl, ap, sym, ◌∙◌}
use mathlib.Core.List.{List, ◌++◌}
use Prim.Native.Nat.{ℕ, ◌+◌, ◌-◌, ◌*◌, ◌≤◌, ◌<◌}
use native.Mathlib.Numerals.{add-one}
use native.Mathlib.Omega.{arith}
use lib.ListN.{length, get_or, take, drop, length-append}
use borrow.Rule.Slice.PartMut.{put_mid}
use Rattle.block_check.specs.Check.{block_bytes, payload_bytes}
use Rattle.block_layout.specs.Carried.{whole_blocks, block_at, length_in, payload_of, carried, carried_of}
use Rattle.block_layout.proofs.BlockAt.{length_at}
use Rattle.block_layout.proofs.Carrying.{length-carried, payload-inside, length-payload, right-at}
use Rattle.lists.proofs.Fill.{over-whole}
use Rattle.lists.proofs.Parts.{part-after}
use Rattle.block_import.proofs.Parts.{block-part, block-length}
use Rattle.block_import.proofs.store_payloads.Goals as goal
use Rattle.block_import.proofs.store_payloads.Goals.{After-word_at-bytes}

-- block i, once its length is read
record Known (s : List ℕ) (i bytes : ℕ) : Type 0 where
  read : bytes ≡ length_in (block_at s i)
  most : bytes ≤ payload_bytes
  inside : payload_bytes * i + bytes ≤ length (carried_of s)
  before : length (carried s i) ≡ payload_bytes * i
  payload : length (payload_of (block_at s i)) ≡ bytes

known : (w : After-word_at-bytes) → Known w.args.blocks.bytes.now w.loop-i.i w.word_at-bytes.result
known w =
    let s = w.args.blocks.bytes.now in
    let i = w.loop-i.i in
    let h : i < whole_blocks s = omega arith in
    let small : (j : ℕ) → get_or s j 0 < 256 = w.args.blocks.small in
    let inside = payload-inside s small w.args.blocks.checked w.args.blocks.laid_out i h in
    let e = w.word_at-bytes.ensures.0 ∙ ap length_in (block-part s i) in
    record {
      read = e;
      most = omega (arith, e, inside.0);
      inside = omega (arith, e, inside.1);
      before = length-carried s small w.args.blocks.checked w.args.blocks.laid_out i h;
      payload =
          length-payload (block_at s i) (length_at s i h) (right-at s small w.args.blocks.checked w.args.blocks.laid_out i h)
          ∙ sym e;
    }

-- the buffer after one payload more
more : (s out before new : List ℕ) (i n : ℕ) → Known s i n → out ≡ carried s i ++ drop (length (carried s i)) before
    → new ≡ take (6 + n - 6) (drop 6 (take (block_bytes * i + block_bytes - block_bytes * i) (drop (block_bytes * i) s)))
    → put_mid (payload_bytes * i) (payload_bytes * i + n - payload_bytes * i) out new
    ≡ carried s (i + 1) ++ drop (length (carried s (i + 1))) before
unfolding carried
more s out before new i n k far copied =
    let x = carried s i in
    let y = payload_of (block_at s i) in
    let e : payload_bytes * i + n - payload_bytes * i ≡ n = omega arith in
    let f : 6 + n - 6 ≡ length_in (block_at s i) = omega (arith, k.read) in
    let size : length x + n ≡ length (x ++ y) = omega (arith, length-append x y, k.payload) in
    (λ t. put_mid (sym k.before t) (e t) (far t) ((copied ∙ (λ u. take (f u) (drop 6 (block-part s i u)))) t))
    ∙ part-after x y before (length x) n refl
    ∙ ap (λ (m : ℕ). (x ++ y) ++ drop m before) size
    ∙ ap (λ (m : ℕ). carried s m ++ drop (length (carried s m)) before) (sym (add-one i))

pub loop-i-init : goal.loop-i-init
unfolding carried
loop-i-init c = refl

pub slice_bounds-copy-end : goal.slice_bounds-copy-end
slice_bounds-copy-end c = omega (arith, (known (goal.at.slice_bounds-copy-end c).After-word_at-bytes).inside)

pub slice_bounds-copy-end-in-loop-i : goal.slice_bounds-copy-end-in-loop-i
slice_bounds-copy-end-in-loop-i c =
    omega (arith, (known (goal.at.slice_bounds-copy-end-in-loop-i c).After-word_at-bytes).most, block-length c.args.blocks.bytes.now c.loop-i.i (omega arith))

pub loop-i-preserved : goal.loop-i-preserved
loop-i-preserved c =
    more c.args.blocks.bytes.now c.loop-i.out c.args.out.now c.copy.new.to c.loop-i.i c.word_at-bytes.result
    (known (goal.at.loop-i-preserved c).After-word_at-bytes) c.loop-i.invariant (c.copy.ensures ∙ over-whole _ _ 0 (omega arith))
