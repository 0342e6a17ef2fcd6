-- A phase in cycles, by the number of bits that its count has for fractions of a cycle. FORMAT, "Times and phases".
use Rattle.std.specs.Prelude.{ℕ, ◌^◌, ◌≡◌, false, pos, Float}
use Rattle.std.specs.Float.Ieee.Exact.{HasValue}
use Rattle.floats.specs.Whole.{quotient_of}

-- the 64-bit float nearest to count / 2 ^ bits
unfoldable pub phase_of : ℕ → ℕ → Float
phase_of bits count = quotient_of (pos count) (2 ^ bits)

-- a float is the phase of a count: finite, not negative, and in value exactly count / 2 ^ bits
abbrev pub InCycles : ℕ → ℕ → Float → Type 0
InCycles bits count x = (x ≡ phase_of bits count) × HasValue x false count (2 ^ bits)
