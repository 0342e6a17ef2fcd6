-- The one digit is the text, or the leading digits and the last are.
use Rattle.numbers.proofs.Decimal.{one-digit, more-digits}
use Rattle.numbers.proofs.Writing.{written_both, written_as}
use Rattle.numbers.proofs.+write_decimal.Goals as goal

pub returns-then-n-lt10 : goal.returns-then-n-lt10
returns-then-n-lt10 t c = written_as (one-digit c.args.n c.if-n-lt10.true) c.write_digit.ensures

pub returns-else-n-lt10 : goal.returns-else-n-lt10
returns-else-n-lt10 t c =
    written_both (more-digits c.args.n c.if-n-lt10.false) c.write_decimal-last.ensures c.write_digit-else-n-lt10.ensures
