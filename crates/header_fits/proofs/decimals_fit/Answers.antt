-- Only the three decimal fields are judged: of every other row the test computes to true.
use mathlib.Core.Path.{sym, ◌∙◌}
use mathlib.Core.Bool.{◌&&◌}
use Rattle.lists.proofs.Truth.{and-true}
use Rattle.header_fits.proofs.decimals_fit.Goals as goal

pub returns : goal.returns
returns c =
    λ i.
    c.decimal_fits-readback.ensures i
    && (c.decimal_fits-calculated.ensures i && (c.decimal_fits-rate.ensures ∙ sym (and-true _)) i)
