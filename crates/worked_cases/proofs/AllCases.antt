-- Every case worked by hand, under one statement. Assumes nothing.
use mathlib.Core.Path.{◌≡◌, refl}
use mathlib.Core.List.{map}
use Rattle.bits.specs.Bits.{get_bits, num, bit_at}
use Rattle.bits.specs.Decimal.{decimal_value, digits}
use Rattle.fields.specs.Field.{value_of, digits_good}
use Rattle.sample_rates.specs.Rates.{line_in}
use Rattle.header.specs.Edition.{edition_of}
use Rattle.editions.specs.Rates.{sample_rate_of}
use Rattle.record.specs.Record.{record_refusal, header_answer}
use Rattle.frequency_rate.specs.FrequencyRate.{frequency_rate_units, frequency_rate_of, frequency_rate_answer}
use Rattle.channels.specs.Sample.{signed_of}
use Rattle.totals.specs.Total.{sum_of, added_of, lesser, greater, kept_of, is_same, is_clipped, total_of}
use Rattle.record.specs.Stretch.{record_rate}
use Rattle.times.specs.SampleTime.{sample_time, time_refusal, time_answer}
use Rattle.worked_cases.specs.Cases.{cases, given, said}

pub all-cases : map given cases ≡ map said cases
unfolding get_bits num bit_at decimal_value digits value_of digits_good edition_of sample_rate_of line_in record_refusal header_answer frequency_rate_units frequency_rate_of frequency_rate_answer sample_time time_refusal time_answer record_rate signed_of sum_of added_of lesser greater kept_of is_same is_clipped total_of
all-cases = refl
