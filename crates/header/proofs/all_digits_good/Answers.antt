use mathlib.Core.Path.{◌∙◌, sym}
use mathlib.Core.Bool.{◌&&◌}
use Rattle.lists.proofs.Truth.{and-true}
use Rattle.fields.specs.Field.{digits_good}
use borrow.Author.Rules.{rules}
use Rattle.header.proofs.all_digits_good.Goals as goal

pub good_digits-readback-requires : goal.good_digits-readback-requires
good_digits-readback-requires c = search rules

pub good_digits-calculated-requires : goal.good_digits-calculated-requires
good_digits-calculated-requires c = search rules

pub good_digits-rate-requires : goal.good_digits-rate-requires
good_digits-rate-requires c = search rules

pub returns : goal.returns
unfolding digits_good
returns c =
    λ i. c.good_digits-readback.ensures i && (c.good_digits-calculated.ensures i && (c.good_digits-rate.ensures ∙ sym (and-true _)) i)
