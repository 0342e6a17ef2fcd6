use mathlib.Core.Path.{ap, sym}
use Rattle.header.specs.Edition.{Edition}
use Rattle.header.proofs.Sound.{is-1992, is-1985}
use Rattle.editions.proofs.other_resolution.Goals as goal

pub returns-then-edition-eq-EDITION_1992 : goal.returns-then-edition-eq-EDITION_1992
returns-then-edition-eq-EDITION_1992 c = ap (λ (e : Edition). e.other-resolution) (sym (is-1992 _ c.if-edition-eq-EDITION_1992.true))

pub returns : goal.returns
returns c = ap (λ (e : Edition). e.other-resolution) (sym (is-1985 _ c.if-edition-eq-EDITION_1992.false))
