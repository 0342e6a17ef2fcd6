-- One field of a header, in the paper's own terms: words and bits counted from 1, bit 1 the most significant.
-- FORMAT, "The record".
use Rattle.std.specs.Prelude.{ℕ, ◌+◌, ◌-◌, ◌*◌, ◌/◌, ◌%◌, ◌^◌, ◌≤◌, Bool, true, false, cond, ◌&&◌, ◌||◌, not, List, leb, ltb, eqb}
use Rattle.bits.specs.Bits.{get_bits, set_bits, widest}
use Rattle.bits.specs.Decimal.{decimal_value, digits, coded}
use Rattle.signed.specs.Signed.{signed_value, signed_fits}
use Rattle.fields.specs.declared.Field.{Field}

-- from bit a of word m to bit b of word n
infixl 20 word◌bit◌until◌bit◌
abbrev pub word◌bit◌until◌bit◌ : ℕ → ℕ → ℕ → ℕ → Field
word m bit a until n bit b = record { 0 = m; 1 = a; 2 = 16 * n + b - (16 * m + a) + 1; 3 = false; 4 = false }

-- bits a to b of word m
infixl 20 word◌bits◌to◌
abbrev pub word◌bits◌to◌ : ℕ → ℕ → ℕ → Field
word m bits a to b = word m bit a until m bit b

-- the whole of word m
infixl 20 word◌
abbrev pub word◌ : ℕ → Field
word m = word m bits 1 to 16

-- no bits, before word m: a place of the table that an edition leaves empty; its value is 0
infixl 20 empty-before-word◌
abbrev pub empty-before-word◌ : ℕ → Field
empty-before-word m = record { 0 = m; 1 = 1; 2 = 0; 3 = false; 4 = false }

-- no field: what stands past the end of a table
abbrev pub none : Field
none = record { 0 = 0; 1 = 0; 2 = 0; 3 = false; 4 = false }

-- its word and first bit, counted from 1, its number of bits, and whether it holds decimal digits or a signed number
abbrev pub word_of : Field → ℕ
word_of f = f.0

abbrev pub bit_of : Field → ℕ
bit_of f = f.1

abbrev pub bit_width : Field → ℕ
bit_width f = f.2

abbrev pub is_decimal : Field → Bool
is_decimal f = f.3

abbrev pub is_signed : Field → Bool
is_signed f = f.4

-- the same bits, as decimal digits of four bits each, and as a signed number
abbrev pub bcd : Field → Field
bcd f = record { 0 = word_of f; 1 = bit_of f; 2 = bit_width f; 3 = true; 4 = false }

abbrev pub signed : Field → Field
signed f = record { 0 = word_of f; 1 = bit_of f; 2 = bit_width f; 3 = false; 4 = true }

-- the first bit, counted from 0 through the whole header, and the number of decimal digits
abbrev pub start : Field → ℕ
start f = 16 * (word_of f - 1) + (bit_of f - 1)

abbrev pub digit_count : Field → ℕ
digit_count f = bit_width f / 4

-- the value that a code, a field's bits as a number, stands for; and the code of a value, of which a field takes the lowest bits
abbrev pub decoded : Field → ℕ → ℕ
decoded f code =
    cond (is_decimal f) (decimal_value (digit_count f) code) (cond (is_signed f) (signed_value (bit_width f) code) code)

abbrev pub encoded : Field → ℕ → ℕ
encoded f value = cond (is_decimal f) (coded (digit_count f) value) value

-- what the field holds in the bytes b
unfoldable pub value_of : Field → List ℕ → ℕ
value_of f b = decoded f (get_bits (start f) (bit_width f) b)

-- the bytes b with the value put into the field
unfoldable pub with_value : Field → ℕ → List ℕ → List ℕ
with_value f v b = set_bits (start f) (bit_width f) (encoded f v) b

-- each digit of a decimal field is at most 9; a binary field has no digits to judge
unfoldable pub digits_good : Field → List ℕ → Bool
digits_good f b = not (is_decimal f) || digits (digit_count f) (get_bits (start f) (bit_width f) b)

-- a value has no more digits than a decimal field, or is one that the bits of any other can hold
abbrev pub decimal_fits : Field → ℕ → Bool
decimal_fits f v = not (is_decimal f) || ltb v (10 ^ digit_count f)

abbrev pub bits_fit : Field → ℕ → Bool
bits_fit f v = cond (is_signed f) (signed_fits (bit_width f) v) (ltb v (2 ^ bit_width f))

abbrev pub binary_fits : Field → ℕ → Bool
binary_fits f v = is_decimal f || bits_fit f v

-- the last word that a field can start in: more than any record has
abbrev pub last_readable_word : ℕ
last_readable_word = 4000

-- a field that the code can read: one of these words, no wider than the widest
pub record Readable (f : Field) : Type 0 where
  pub first : 1 ≤ word_of f
  pub last : word_of f ≤ last_readable_word
  pub high : 1 ≤ bit_of f
  pub low : bit_of f ≤ 16
  pub narrow : bit_width f ≤ widest

-- the same as a test
abbrev pub readable : Field → Bool
readable f =
    (leb 1 (word_of f) && leb (word_of f) last_readable_word)
    && ((leb 1 (bit_of f) && leb (bit_of f) 16) && leb (bit_width f) widest)

-- a decimal field has whole digits, and a signed one has a bit
abbrev pub whole_digits : Field → Bool
whole_digits f = (not (is_decimal f) || eqb (bit_width f % 4) 0) && (not (is_signed f) || leb 1 (bit_width f))

-- what the code reads, writes and judges: of a field that is not readable 0, nothing, no digit and no value
abbrev pub read_value : Field → List ℕ → ℕ
read_value f b = cond (readable f) (value_of f b) 0

abbrev pub write_value : Field → ℕ → List ℕ → List ℕ
write_value f v b = cond (readable f) (with_value f v b) b

abbrev pub good_digits : Field → List ℕ → Bool
good_digits f b = not (readable f) || digits_good f b

unfoldable pub fits_binary : Field → ℕ → Bool
fits_binary f v = not (readable f) || binary_fits f v

abbrev pub fits_decimal : Field → ℕ → Bool
fits_decimal f v = not (readable f) || decimal_fits f v
