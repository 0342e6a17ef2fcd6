-- a number of 64 bits has no more bits than 64 or more
use Prim.Native.Nat.{◌^◌}
use mathlib.Core.Path.{ap, sym}
use native.Mathlib.Nat.{lt_of_lt_of_le}
use lib.Dec.{ltb}
use lib.Pow.{pow_mono}
use borrow.Author.Tests.{lt-ltb}
use Rattle.bits.proofs.fits_bits.Goals as goal

pub returns-then-width-lt64 : goal.returns-then-width-lt64
returns-then-width-lt64 c = ap (ltb c.args.value) c.two_to.ensures.0

pub returns : goal.returns
returns c =
    let a = c.args in
    sym (lt-ltb a.value (2 ^ a.width) (lt_of_lt_of_le c.ranges.value.fits (pow_mono c.if-width-lt64.false)))
