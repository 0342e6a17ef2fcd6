-- When a sample was taken, in microseconds from 0 h of the record's day; a time below zero is on the day before. FORMAT, "Times
-- and phases".
use Rattle.std.specs.Prelude.{ℕ, ◌*◌, ◌/◌, cond, not, List, [], ◌∷◌, eqb, ltb, ℤ, pos, negsuc, ◌+ℤ◌, ◌-ℤ◌, ◌*ℤ◌}
use Rattle.answers.specs.Answer.{Answer, unless}
use Rattle.answers.specs.Refusal.{◌when◌, first, ◌then◌}
use Rattle.fields.specs.Field.{value_of}
use Rattle.header.specs.Rows.{time_tag}
use Rattle.sample_rates.specs.Rates.{rate_hz, second_us}
use Rattle.record.specs.Record.{record_refusal}
use Rattle.record.specs.Stretch.{record_rate, sample_count}

-- the microseconds of a millisecond
abbrev pub ms_us : ℕ
ms_us = 1000

-- the sample that the tag times, counted from 0: the third of each channel, in both editions
abbrev pub tagged_sample : ℕ
tagged_sample = 2

-- the intervals from the tag to sample k, below zero before the tag
abbrev pub intervals : ℕ → ℤ
intervals k = pos k -ℤ pos tagged_sample

-- z over d, rounded down, which is toward minus infinity; `negsuc n` is -(n + 1)
abbrev pub rounded_down : ℤ → ℕ → ℤ
rounded_down (pos n) d = pos (n / d)
rounded_down (negsuc n) d = negsuc (n / d)

-- from the tag to sample k at so many a second: k - 2 times 1,000,000 over the rate, rounded down; 0 where there is no rate
abbrev pub from_tag : ℕ → ℕ → ℤ
from_tag hz k = cond (eqb hz 0) (pos 0) (rounded_down (intervals k *ℤ pos second_us) hz)

-- by the tag in milliseconds and the samples a second
abbrev pub time_of : ℕ → ℕ → ℕ → ℤ
time_of tag hz k = pos (ms_us * tag) +ℤ from_tag hz k

-- of sample k, of any bytes, in the edition n
unfoldable pub sample_time : ℕ → List ℕ → ℕ → ℤ
sample_time n b k = time_of (value_of time_tag b) (rate_hz (record_rate n b)) k

-- the refusal for sample k of the record b: 25, 1 to 11, then 12
unfoldable pub time_refusal : ℕ → List ℕ → ℕ → ℕ
time_refusal n b k = record_refusal n b then first (12 when not (ltb k (sample_count n b)) ∷ [])

-- the time of sample k of the record b, or the refusal
unfoldable pub time_answer : ℕ → List ℕ → ℕ → Answer ℤ
time_answer n b k = unless (time_refusal n b k) (pos 0) (sample_time n b k)
