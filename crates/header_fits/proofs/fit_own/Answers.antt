use mathlib.Core.Path.{ap, sym, ◌∙◌}
use mathlib.Core.Bool.{true}
use Rattle.header_parts.specs.Parts.{rows_fit}
use Rattle.header.specs.Edition.{Edition}
use Rattle.header.proofs.Sound.{is-1992, is-1985}
use Rattle.header_fits.proofs.fit_own.Goals as goal

pub returns-then-edition-eq-EDITION_1992 : goal.returns-then-edition-eq-EDITION_1992
returns-then-edition-eq-EDITION_1992 c =
    let a = c.args in
    c.fit_part.ensures
    ∙ ap (λ (e : Edition). rows_fit e.own 40 a.values.now true) (sym (is-1992 a.edition c.if-edition-eq-EDITION_1992.true))

pub returns : goal.returns
returns c =
    let a = c.args in
    c.fit_part-2.ensures
    ∙ ap (λ (e : Edition). rows_fit e.own 40 a.values.now true) (sym (is-1985 a.edition c.if-edition-eq-EDITION_1992.false))
