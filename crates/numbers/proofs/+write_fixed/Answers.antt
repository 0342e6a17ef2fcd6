-- The whole number and the point are the text, or what stands before the last place and that are.
use Rattle.std.proofs.Common.{arith}
use Rattle.numbers.proofs.Places.{fixed-none, fixed_more}
use Rattle.numbers.proofs.Writing.{written_both}
use Rattle.numbers.proofs.+write_fixed.Goals as goal

pub returns-then-places-eq0 : goal.returns-then-places-eq0
returns-then-places-eq0 t c =
    written_both (fixed-none c.args.places c.args.n c.if-places-eq0.true) c.write_decimal-end.ensures c.write_byte.ensures

pub returns-else-places-eq0 : goal.returns-else-places-eq0
returns-else-places-eq0 t c =
    written_both (fixed_more c.args.places c.args.n (omega (arith, c.if-places-eq0.false))) c.write_fixed-end.ensures
    c.write_digit.ensures
