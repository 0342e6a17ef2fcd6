-- The lines of the lister (FORMAT, "The listing").
use Rattle.std.specs.Prelude.{List, ◌++◌, ℕ, ◌+◌, ℤ}
use Rattle.numbers.specs.Number.{ascii, decimal_text, fixed, signed_decimal, signed_fixed}
use Rattle.text.specs.declared.Columns.{Columns}

unfoldable pub header_line : List ℕ
header_line = ascii "record,first_us,origin,poca_hz,rate_hz_s\n"

-- a whole number, and the comma behind it; and one that may be below zero
abbrev pub column : ℕ → List ℕ
column n = decimal_text n ++ ascii ","

abbrev pub signed_column : ℤ → List ℕ
signed_column z = signed_decimal z ++ ascii ","

-- hertz with six places, of microhertz; hertz a second with five, of units of 0.00001, and the line feed
abbrev pub frequency_column : ℕ → List ℕ
frequency_column n = fixed 6 n ++ ascii ","

abbrev pub rate_column : ℤ → List ℕ
rate_column z = signed_fixed 5 z ++ ascii "\n"

-- record number, first sample's time in microseconds, clock origin, readback frequency, frequency rate
unfoldable pub record_line : Columns → List ℕ
record_line c =
    column c.number
    ++ (signed_column c.first_us
    ++ (column c.origin
    ++ (frequency_column c.frequency_uhz
    ++ rate_column c.frequency_rate_units)))

unfoldable pub refused_line : ℕ → List ℕ
refused_line number = ascii "refused," ++ (decimal_text number ++ ascii "\n")

-- the length of a record's line whose number and origin have n and o digits, whose time has t characters, whose frequency has f
-- digits before the point and whose rate has a minus and r before the point; behind each column stands a comma or the line feed
abbrev pub line_length : ℕ → ℕ → ℕ → ℕ → ℕ → ℕ
line_length n t o f r = (n + 1) + (t + 1) + (o + 1) + (f + 1 + 6 + 1) + (1 + r + 1 + 5 + 1)
