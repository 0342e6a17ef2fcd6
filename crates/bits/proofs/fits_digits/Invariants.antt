-- Each division by ten takes a digit away; a number of no more digits than were taken is then 0.
use Prim.Native.Nat.{◌/◌, ◌^◌}
use mathlib.Core.Path.{◌≡◌}
use Rattle.bits.proofs.fits_digits.Given as goal

abbrev pub invariant-loop : goal.invariant-loop
invariant-loop l = l.rest ≡ l.value / 10 ^ l.counter
