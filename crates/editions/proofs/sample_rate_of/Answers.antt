use mathlib.Core.Path.{ap, sym, ◌∙◌}
use Rattle.sample_rates.specs.Rates.{line_in}
use Rattle.header.specs.Edition.{Edition}
use Rattle.header.proofs.Sound.{is-1992, is-1985}
use Rattle.editions.specs.Rates.{sample_rate_of}
use Rattle.editions.proofs.sample_rate_of.Goals as goal

pub returns-then-edition-eq-EDITION_1992 : goal.returns-then-edition-eq-EDITION_1992
unfolding sample_rate_of
returns-then-edition-eq-EDITION_1992 c =
    let a = c.args in
    c.rate_1992.ensures ∙ ap (λ (e : Edition). line_in e.rate-lines a.hz) (sym (is-1992 a.edition c.if-edition-eq-EDITION_1992.true))

pub returns : goal.returns
unfolding sample_rate_of
returns c =
    let a = c.args in
    c.rate_1985.ensures ∙ ap (λ (e : Edition). line_in e.rate-lines a.hz) (sym (is-1985 a.edition c.if-edition-eq-EDITION_1992.false))
