use mathlib.Core.Path.{ap, sym, ◌∙◌}
use Rattle.fields.specs.Field.{value_of}
use Rattle.header.specs.Edition.{Edition}
use Rattle.header.proofs.Sound.{is-1992, is-1985}
use Rattle.record.proofs.sample_rate_in.Goals as goal

pub returns-then-edition-eq-EDITION_1992 : goal.returns-then-edition-eq-EDITION_1992
returns-then-edition-eq-EDITION_1992 c =
    let a = c.args in
    c.read_field.ensures ∙ ap (λ (e : Edition). value_of e.sample-rate a.bytes.now) (sym (is-1992 a.edition c.if-edition-eq-EDITION_1992.true))

pub returns : goal.returns
returns c =
    let a = c.args in
    c.read_field-2.ensures ∙ ap (λ (e : Edition). value_of e.sample-rate a.bytes.now) (sym (is-1985 a.edition c.if-edition-eq-EDITION_1992.false))
