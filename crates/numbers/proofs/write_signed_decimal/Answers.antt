use Rattle.numbers.specs.Number.{decimal_text, signed_decimal}
use Rattle.numbers.proofs.Signs.{signed-text}
use Rattle.numbers.proofs.Writing.{written_both}
use Rattle.numbers.proofs.write_signed_decimal.Goals as goal

pub returns : goal.returns
unfolding signed_decimal
returns c =
    written_both (signed-text decimal_text c.ranges.value c.unsigned_abs.ensures.value) c.write_minus-digits_at.ensures
    c.write_decimal.ensures
