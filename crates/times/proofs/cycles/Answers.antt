use Prim.Native.Nat.{◌%◌, ◌^◌}
use mathlib.Core.Path.{refl, sym, subst}
use Rattle.header.specs.Edition.{Edition}
use Rattle.header.proofs.Sound.{is-1992, is-1985}
use Rattle.phase.specs.Phase.{InCycles}
use Rattle.times.proofs.cycles.Goals as goal

pub returns-then-edition-eq-EDITION_1992 : goal.returns-then-edition-eq-EDITION_1992
returns-then-edition-eq-EDITION_1992 c =
    let a = c.args in
    subst (λ (e : Edition). InCycles e.fraction-bits (a.count % 2 ^ 48) c.cycles.result)
    (sym (is-1992 a.edition c.if-edition-eq-EDITION_1992.true)) (c.cycles.ensures.exactly 20 refl)

pub returns : goal.returns
returns c =
    let a = c.args in
    subst (λ (e : Edition). InCycles e.fraction-bits (a.count % 2 ^ 48) c.cycles-2.result)
    (sym (is-1985 a.edition c.if-edition-eq-EDITION_1992.false)) (c.cycles-2.ensures.exactly 8 refl)
