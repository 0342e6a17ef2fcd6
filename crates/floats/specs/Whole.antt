-- Whole numbers as 64-bit floats, and the quotient of two. FORMAT, "Times and phases", "The index of seconds".
use Rattle.std.specs.Prelude.{ℕ, suc, ◌^◌, true, false, ℤ, pos, negsuc, Float}
use Rattle.std.specs.Float.{binary64}
use Rattle.std.specs.Float.Ieee.{round}

-- a 64-bit float holds every whole number up to 2^53, of either sign
abbrev pub exact_limit : ℕ
exact_limit = 2 ^ 53

-- a whole number over one above 0: the 64-bit float nearest to the exact quotient, rounded once (negsuc a is -1 - a)
unfoldable pub quotient_of : ℤ → ℕ → Float
quotient_of (pos a) b = round binary64 false a b
quotient_of (negsuc a) b = round binary64 true (suc a) b
