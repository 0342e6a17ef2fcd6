-- Signed numbers, two's complement. FORMAT, "The record". A value is held as the computer holds one of 64 bits: a negative
-- number x as 2^64 + x.
use Rattle.std.specs.Prelude.{ℕ, ◌+◌, ◌-◌, ◌/◌, ◌^◌, Bool, cond, ◌&&◌, ◌||◌, leb, ltb}

-- the value of a code of w bits: the second half of the codes are the negative numbers -2^(w - 1) to -1
abbrev pub signed_value : ℕ → ℕ → ℕ
signed_value w code = cond (ltb code (2 ^ w / 2)) code (code + (2 ^ 64 - 2 ^ w))

-- a value that w bits can hold: from -2^(w - 1) up to 2^(w - 1) - 1
abbrev pub signed_fits : ℕ → ℕ → Bool
signed_fits w value = ltb value (2 ^ w / 2) || (leb (2 ^ 64 - 2 ^ w / 2) value && ltb value (2 ^ 64))
