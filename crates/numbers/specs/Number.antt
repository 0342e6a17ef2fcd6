-- Numbers as text (FORMAT, "The listing"): decimal digits, decimal places, a minus below zero. Characters are their ASCII
-- numbers.
use Rattle.std.specs.Prelude.{Bool, true, false, List, [], ◌∷◌, ◌++◌, ℕ, zero, suc, ◌+◌, ◌-◌, ◌*◌, ◌/◌, ◌%◌, ◌^◌, ltb, ℤ, pos, negsuc, nat_abs}
use Prim.Native.Char.{code}
use Prim.Native.String.{String, [] as empty, ◌∷◌ as ◌then◌}

-- the characters of a text
abbrev pub ascii : String → List ℕ
ascii empty = []
ascii (c then s) = code c ∷ ascii s

-- the units digit of n; 48 is the character 0
abbrev pub digit : ℕ → ℕ
digit n = 48 + n % 10

-- The digits of n by at most k divisions by ten. The test whether n is below ten is an argument, since antt evaluates both arms
-- of a `cond`.
unfoldable pub digits_in : ℕ → Bool → ℕ → List ℕ
digits_in zero small n = digit n ∷ []
digits_in (suc k) true n = digit n ∷ []
digits_in (suc k) false n = digits_in k (ltb (n / 10) 10) (n / 10) ++ digit n ∷ []

-- "most significant first, no leading zeros before the units digit": below ten the one digit, else the digits of n / 10 and then
-- the units digit; n divisions are always enough
unfoldable pub decimal_text : ℕ → List ℕ
decimal_text n = digits_in n (ltb n 10) n

-- the last k digits of n, with zeros in front where n has fewer
unfoldable pub places : ℕ → ℕ → List ℕ
places zero n = []
places (suc k) n = places k (n / 10) ++ digit n ∷ []

-- n units of the k-th decimal place: "hertz with six places" are made of microhertz
unfoldable pub fixed : ℕ → ℕ → List ℕ
fixed k n = decimal_text (n / 10 ^ k) ++ ascii "." ++ places k n

-- "minus only below zero"; `negsuc n` is -(n + 1)
abbrev pub minus : ℤ → List ℕ
minus (pos n) = []
minus (negsuc n) = ascii "-"

-- a whole number that may be below zero, and one of units of the k-th decimal place
unfoldable pub signed_decimal : ℤ → List ℕ
signed_decimal z = minus z ++ decimal_text (nat_abs z)

unfoldable pub signed_fixed : ℕ → ℤ → List ℕ
signed_fixed k z = minus z ++ fixed k (nat_abs z)

-- the number that digits stand for, behind digits that stand for `before`
unfoldable pub value_after : ℕ → List ℕ → ℕ
value_after before [] = before
value_after before (d ∷ ds) = value_after (before * 10 + (d - 48)) ds

unfoldable pub numeral_value : List ℕ → ℕ
numeral_value ds = value_after 0 ds
