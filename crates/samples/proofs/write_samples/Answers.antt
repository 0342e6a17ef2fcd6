use mathlib.Core.Path.{refl, ◌∙◌}
use native.Mathlib.Omega.{arith}
use Rattle.samples.proofs.Judged.{room, judged-by-count}
use Rattle.samples.proofs.Part.{record-filled}
use Rattle.samples.proofs.write_samples.Goals as goal

pub slice_bounds-multiplex-end : goal.slice_bounds-multiplex-end
slice_bounds-multiplex-end c =
    let m = c.sample_count-count.ensures.0 in
    let r = room _ _ _ _ _ _ (c.in_ok-judge.ensures ∙ judged-by-count _ _ _ _ _ _ m) refl in
    omega (arith, m, c.header_bytes-start.ensures.0, r.inside)

pub returns : goal.returns
returns c =
    let m = c.sample_count-count.ensures.0 in
    let j = c.in_ok-judge.ensures ∙ judged-by-count _ _ _ _ _ _ m in record {
      value = j;
      bytes_after = record-filled _ _ _ c.header_bytes-start.ensures.0 _ m _ _ _ _ (room _ _ _ _ _ _ j refl) _
          c.multiplex.ensures;
    }
