-- What the index uses of a record: its number, its second, its two flags and its samples. FORMAT, "The index of seconds".
-- Any bytes have these in any edition; the index asks them of accepted records only.
use Rattle.std.specs.Prelude.{ℕ, ◌/◌, Bool, List, eqb, ℤ}
use Rattle.channels.specs.Sample.{samples_of}
use Rattle.fields.specs.Field.{value_of}
use Rattle.header.specs.Rows.{clock_origin, copy_error, record_number, time_tag}
use Rattle.header.specs.Edition.{sample_rate}
use Rattle.record.specs.Record.{record_refusal}
use Rattle.record.specs.Stretch.{sample_count, stretch_of}

-- a record as a caller hands it over: the edition that it is named to be of, and its bytes
pub record Record : Type 0 where
  pub edition : ℕ
  pub bytes : List ℕ

abbrev pub in_edition : ℕ → List ℕ → Record
in_edition n b = record { edition = n; bytes = b }

-- its refusal, 25 or 1 to 11, or 0
abbrev pub refusal_of : Record → ℕ
refusal_of b = record_refusal b.edition b.bytes

-- its sample rate, as its header has it
abbrev pub rate_in : Record → ℕ
rate_in b = value_of (sample_rate b.edition) b.bytes

abbrev pub number_of : Record → ℕ
number_of b = value_of record_number b.bytes

-- the milliseconds of a second
abbrev pub second_ms : ℕ
second_ms = 1000

-- its tag in seconds, rounded down: of bytes, and of a record
unfoldable pub second_in : List ℕ → ℕ
second_in b = value_of time_tag b / second_ms

abbrev pub second_of : Record → ℕ
second_of b = second_in b.bytes

abbrev pub has_origin : Record → Bool
has_origin b = eqb (value_of clock_origin b.bytes) 1

abbrev pub has_error : Record → Bool
has_error b = eqb (value_of copy_error b.bytes) 1

-- its sample stretch, and the samples that each channel has in it
abbrev pub stretch_in : Record → List ℕ
stretch_in b = stretch_of b.edition b.bytes

abbrev pub count_in : Record → ℕ
count_in b = sample_count b.edition b.bytes

-- its samples of a channel (1 to 4)
unfoldable pub channel_samples : ℕ → Record → List ℤ
channel_samples channel b = samples_of (stretch_in b) channel (count_in b)
