-- Binary coded decimal: decimal digits of four bits each, the most significant first. FORMAT, "The record".
use Rattle.std.specs.Prelude.{ℕ, zero, suc, ◌+◌, ◌*◌, ◌/◌, ◌%◌, Bool, true, ◌&&◌, leb}

-- the number that the last n digits of the code c say
unfoldable pub decimal_value : ℕ → ℕ → ℕ
decimal_value zero c = 0
decimal_value (suc n) c = decimal_value n (c / 16) * 10 + c % 16

-- each of the last n digits of the code c is at most 9
unfoldable pub digits : ℕ → ℕ → Bool
digits zero c = true
digits (suc n) c = digits n (c / 16) && leb (c % 16) 9

-- the code of the last n decimal digits of x
unfoldable pub coded : ℕ → ℕ → ℕ
coded zero x = 0
coded (suc n) x = coded n (x / 10) * 16 + x % 10

-- the most digits that the code takes: those of 56 bits
abbrev pub most_digits : ℕ
most_digits = 14
