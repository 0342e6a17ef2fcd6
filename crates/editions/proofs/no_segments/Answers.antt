use mathlib.Core.Path.{◌≡◌, refl}
use mathlib.Core.Bool.{Bool, true, false, cond}
use lib.Dec.{eqb}
use Rattle.header.specs.Edition.{edition1985, edition1992, edition_of}
use Rattle.editions.proofs.no_segments.Goals as goal

by-test : (t : Bool) → t ≡ eqb (cond t edition1992 edition1985).layout.monitor-words 0
by-test true = refl
by-test false = refl

pub returns : goal.returns
unfolding edition_of
returns c = by-test (eqb c.args.edition 1992)
