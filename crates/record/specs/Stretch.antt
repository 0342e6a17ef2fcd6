-- Where the samples of a record lie: after the edition's header, four bytes for each sample of a channel. FORMAT, "Samples".
use Rattle.std.specs.Prelude.{ℕ, ◌+◌, ◌*◌, List, ◌++◌, take, drop}
use Rattle.fields.specs.Field.{value_of}
use Rattle.header.specs.Edition.{sample_rate, header_bytes}
use Rattle.sample_rates.specs.declared.SampleRate.{SampleRate}
use Rattle.sample_rates.specs.Rates.{samples_per_record}
use Rattle.editions.specs.Rates.{sample_rate_of}

-- the line of a record's sample rate, in the edition n
unfoldable pub record_rate : ℕ → List ℕ → SampleRate
record_rate n b = sample_rate_of n (value_of (sample_rate n) b)

-- the samples that each channel has in the record
abbrev pub sample_count : ℕ → List ℕ → ℕ
sample_count n b = samples_per_record (record_rate n b)

-- the sample stretch
unfoldable pub stretch_of : ℕ → List ℕ → List ℕ
stretch_of n b = take (4 * sample_count n b) (drop (header_bytes n) b)

-- the record with another stretch: the header and all words after the samples stay
unfoldable pub with_stretch : ℕ → List ℕ → List ℕ → List ℕ
with_stretch n b stretch = take (header_bytes n) b ++ (stretch ++ drop (header_bytes n + 4 * sample_count n b) b)
