-- The frequency rate as a signed number, in units of 0.00001 Hz/s: five digits times a power of ten; sign bit 0 is negative, 1
-- positive; zero has one value. FORMAT, "Frequency rate".
use Rattle.std.specs.Prelude.{ℕ, ◌*◌, ◌^◌, cond, List, eqb, ℤ, pos, neg_ℤ}
use Rattle.answers.specs.Answer.{Answer, unless}
use Rattle.fields.specs.Field.{value_of}
use Rattle.header.specs.Rows.{frequency_rate_digits, frequency_rate_power, frequency_rate_sign}
use Rattle.record.specs.Record.{record_refusal}

-- five digits of four bits, decimal or not, are less than this
abbrev pub digits_below : ℕ
digits_below = 200000

-- by digits, power and sign bit
unfoldable pub frequency_rate_units : ℕ → ℕ → ℕ → ℤ
frequency_rate_units digits power sign = cond (eqb sign 1) (pos (digits * 10 ^ power)) (neg_ℤ (pos (digits * 10 ^ power)))

-- of any bytes; each edition has it in the same words
unfoldable pub frequency_rate_of : List ℕ → ℤ
frequency_rate_of b =
    frequency_rate_units (value_of frequency_rate_digits b) (value_of frequency_rate_power b) (value_of frequency_rate_sign b)

-- of a record of the edition n, or its refusal
unfoldable pub frequency_rate_answer : ℕ → List ℕ → Answer ℤ
frequency_rate_answer n b = unless (record_refusal n b) (pos 0) (frequency_rate_of b)
