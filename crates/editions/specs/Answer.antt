-- What follows from a sample rate, for a caller who has only its number. FORMAT, "Rates".
use Rattle.std.specs.Prelude.{ℕ, [], ◌∷◌}
use Rattle.answers.specs.Answer.{Answer, unless}
use Rattle.answers.specs.Refusal.{◌when◌, first}
use Rattle.sample_rates.specs.declared.SampleRate.{SampleRate}
use Rattle.sample_rates.specs.Rates.{no_rate, is_no_rate, records_per_second, samples_per_record, interval_us}
use Rattle.header.specs.Edition.{is_unknown}
use Rattle.editions.specs.declared.RateLine.{RateLine}
use Rattle.editions.specs.Rates.{sample_rate_of}

-- what a line says
abbrev pub rate_line : SampleRate → RateLine
rate_line l = record { samples = samples_per_record l; records = records_per_second l; interval_us = interval_us l }

-- beside a refusal: 0 throughout, as the line of no rate has it
abbrev pub no_rate_line : RateLine
no_rate_line = rate_line no_rate

-- 25, then 5 where no line of the edition's table has the rate
unfoldable pub rate_line_answer : ℕ → ℕ → Answer RateLine
rate_line_answer n hz =
    unless (first (25 when is_unknown n ∷ 5 when is_no_rate (sample_rate_of n hz) ∷ [])) no_rate_line
    (rate_line (sample_rate_of n hz))
