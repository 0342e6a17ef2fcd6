-- The decimal places' number falls.
use Rattle.numbers.proofs.+write_fixed.Given as goal

abbrev pub decreases-write_fixed : goal.decreases-write_fixed
decreases-write_fixed l = l.places
