use Prim.Native.Nat.{◌+◌, ◌-◌, ◌*◌, min}
use mathlib.Core.Path.{◌∙◌}
use lib.ListN.{length, take, drop}
use Rattle.lists.proofs.Parts.{clipped}
use Rattle.header.specs.Edition.{header_bytes}
use Rattle.record.specs.Stretch.{sample_count, stretch_of}
use Rattle.record.proofs.sample_stretch.Goals as goal

pub returns : goal.returns
unfolding stretch_of
returns c =
    let a = c.args in
    let b = a.bytes.now in
    let w = a.edition in
    (λ i. take (c.min-end.ensures i - c.min-start.ensures i) (drop (c.min-start.ensures i) b))
    ∙ (λ i. take (min (c.header_bytes-header_bytes.ensures.0 i + 4 * c.sample_count-count.ensures.0 i) (length b)
    - min (c.header_bytes-header_bytes.ensures.0 i) (length b))
    (drop (min (c.header_bytes-header_bytes.ensures.0 i) (length b)) b))
    ∙ clipped b (header_bytes w) (4 * sample_count w b)
