use mathlib.Core.Path.{ap, sym, ◌∙◌}
use Rattle.fields.specs.Table.{write_all}
use Rattle.header_parts.specs.Parts.{cells}
use Rattle.header.specs.Edition.{Edition}
use Rattle.header.proofs.Sound.{is-1992, is-1985}
use Rattle.header_write.proofs.write_own.Goals as goal

pub returns-then-edition-eq-EDITION_1992 : goal.returns-then-edition-eq-EDITION_1992
returns-then-edition-eq-EDITION_1992 c =
    let a = c.args in
    c.write_part.ensures
    ∙ ap (λ (e : Edition). write_all e.own (cells 40 8 a.values.now) a.bytes.now)
    (sym (is-1992 a.edition c.if-edition-eq-EDITION_1992.true))

pub returns-else-edition-eq-EDITION_1992 : goal.returns-else-edition-eq-EDITION_1992
returns-else-edition-eq-EDITION_1992 c =
    let a = c.args in
    c.write_part-else-edition-eq-EDITION_1992.ensures
    ∙ ap (λ (e : Edition). write_all e.own (cells 40 8 a.values.now) a.bytes.now)
    (sym (is-1985 a.edition c.if-edition-eq-EDITION_1992.false))
