use Rattle.numbers.specs.Number.{fixed, signed_fixed}
use Rattle.numbers.proofs.Signs.{signed-text}
use Rattle.numbers.proofs.Writing.{written_both}
use Rattle.numbers.proofs.write_signed_fixed.Goals as goal

pub returns : goal.returns
unfolding signed_fixed
returns c =
    written_both (signed-text (fixed c.args.places) c.ranges.value c.unsigned_abs.ensures.value) c.write_minus-digits_at.ensures
    c.write_fixed.ensures
