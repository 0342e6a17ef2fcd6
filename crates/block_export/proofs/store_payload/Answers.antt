use Prim.Native.Nat.{ℕ, ◌-◌}
use mathlib.Core.Path.{◌≡◌, ap, ◌∙◌}
use mathlib.Core.List.{◌++◌}
use native.Mathlib.Omega.{arith}
use lib.ListN.{length, take, drop, replicate, length-append, length-take, length-drop}
use borrow.Rule.Slice.PartMut.{put_mid}
use Rattle.lists.proofs.Fill.{over-short}
use Rattle.block_check.specs.Check.{payload_bytes}
use Rattle.block_export.proofs.Parts.{payload-stored}
use Rattle.block_export.proofs.store_payload.Goals as goal

pub returns : goal.returns
returns c =
    let part = c.args.part.now in
    let rest = c.args.rest.now in
    let u = c.min-used.result in
    let w = c.copy.new.to ++ drop u part in
    let n : length (take u part) ≡ u = omega (arith, length-take u part, c.min-used.ensures, c.requires) in
    let front : c.copy.new.to ≡ take u rest =
    c.copy.ensures ∙ over-short (take u part) rest 0 (omega (arith, n, c.min-used.ensures)) ∙ ap (λ (k : ℕ). take k rest) n in
    let size : length w ≡ payload_bytes =
    omega (arith, length-append c.copy.new.to (drop u part), ap length front, length-take u rest, length-drop u part, c.min-used.ensures, c.requires) in
    let left : length (take (length w - u) (drop u w)) ≡ payload_bytes - u = omega (arith, length-take (length w - u) (drop u w), length-drop u w, size) in
    (λ t. put_mid u (length w - u) (front t ++ drop u part) ((c.fill.ensures.after (λ y e. e) ∙ ap (λ (n : ℕ). replicate n 0) left) t))
    ∙ payload-stored part rest u (length w - u) c.min-used.ensures (omega (arith, size, c.requires))
