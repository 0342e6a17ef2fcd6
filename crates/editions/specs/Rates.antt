-- The line of a sample rate in an edition. FORMAT, "Rates".
use Rattle.std.specs.Prelude.{ℕ}
use Rattle.sample_rates.specs.declared.SampleRate.{SampleRate}
use Rattle.sample_rates.specs.Rates.{line_in}
use Rattle.header.specs.Edition.{rates_of}

-- the line of a rate in the edition n, or the line of no rate
unfoldable pub sample_rate_of : ℕ → ℕ → SampleRate
sample_rate_of n hz = line_in (rates_of n) hz
