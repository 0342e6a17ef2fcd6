use Rattle.std.proofs.Common.{◌+◌, get_or}
use Rattle.std.proofs.Math.Seq.{set_out}
use Rattle.header_parts.proofs.Laws.{placed-next}
use Rattle.header_parts.proofs.place.Goals as goal
use Rattle.header_parts.proofs.place.Goals.{then-place-values, else-place-values}

pub loop-k-preserved : goal.loop-k-preserved
loop-k-preserved c =
    let a = c.args in
    let k = c.loop-k.k in
    let v = c.loop-k.values in
    let next = placed-next k a.at a.part a.values.now in
    elim c.if-place-values.branch [
      | then-place-values w ↦ cc
      | else-place-values w ↦ let out = set_out v (a.at + k) (get_or a.part k 0) w.if-place-values.false in cc
    ]
