use mathlib.Core.List.{[], ◌∷◌}
use native.Mathlib.Omega.{arith}
use mir.Syntax.{w8}
use mir.Val.{SFits}
use Rattle.index_row.proofs.Channel.{sum-made, least-made, greatest-made, cell-is}
use Rattle.index_row.proofs.channel_cells.Goals as goal

pub returns : goal.returns
returns c =
    let t = c.args.total in
    let low : SFits w8 t.least = record { sfits = omega arith } in
    let high : SFits w8 t.greatest = record { sfits = omega arith } in
    λ i. cell-is (least-made _ low) i ∷ cell-is (sum-made _ _ c.requires) i ∷ t.squares ∷ t.clipped
    ∷ cell-is (greatest-made _ high) i ∷ []
