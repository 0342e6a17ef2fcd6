-- The line of an accepted record has at most 51 bytes. Assumes nothing.
use Prim.Native.Nat.{ℕ, zero, suc, ◌+◌, ◌*◌, ◌^◌, ◌≤◌, ◌<◌}
use mathlib.Core.Path.{◌≡◌, refl}
use mathlib.Core.Bool.{Bool, true, false, cond}
use mathlib.Core.List.{List}
use native.Mathlib.Nat.{mul-le-mul, pow-le-pow_right}
use native.Mathlib.Omega.{arith}
use lib.Dec.{eqb, lit<, ltb→lt}
use lib.IntN.{pos, neg_ℤ, nat_abs}
use lib.ListN.{length}
use Rattle.fields.specs.Field.{value_of, decimal_fits}
use Rattle.fields.specs.Table.{read_all, place_of}
use Rattle.fields.proofs.OneField.{value-lt}
use Rattle.fields.proofs.Tables.{fit_at}
use Rattle.header.specs.Edition.{edition_of, fields_of}
use Rattle.header.specs.Rows.{clock_origin, record_number, time_tag, readback, frequency_rate_digits, frequency_rate_power, frequency_rate_sign}
use Rattle.frequency_rate.specs.FrequencyRate.{frequency_rate_units, frequency_rate_of}
use Rattle.record.specs.Record.{record_refusal}
use Rattle.record.proofs.Accepted.{record-facts, values-small}
use Rattle.frequency_rate.proofs.Signs.{power_small}
use Rattle.text.proofs.Line.{line-within}
use Rattle.numbers.specs.Number.{signed_decimal}
use Rattle.numbers.proofs.Signs.{signed-length}
use Rattle.sample_rates.specs.Rates.{rate_hz, most_samples, second_us}
use Rattle.record.specs.Stretch.{record_rate}
use Rattle.times.specs.SampleTime.{ms_us, tagged_sample, sample_time}
use Rattle.times.proofs.Timed.{time-near}
use Rattle.listing.specs.Listing.{columns_of, record_text, longest_line}

size_of : (n : ℕ) → nat_abs (neg_ℤ (pos n)) ≡ n
size_of zero = refl
size_of (suc n) = refl

rate-size : (digits power sign : ℕ) → nat_abs (frequency_rate_units digits power sign) ≡ digits * 10 ^ power
unfolding frequency_rate_units
rate-size digits power sign = by-test (eqb sign 1)
  where
    by-test : (t : Bool) → nat_abs (cond t (pos (digits * 10 ^ power)) (neg_ℤ (pos (digits * 10 ^ power)))) ≡ digits * 10 ^ power
    by-test true = refl
    by-test false = size_of (digits * 10 ^ power)

module _ (b : List ℕ) (e : record_refusal 1985 b ≡ 0) where
  frequency-small : value_of readback b < 10 ^ 14
  unfolding edition_of
  frequency-small =
      ltb→lt _ _ (fit_at decimal_fits (fields_of 1985) (read_all (fields_of 1985) b) (place_of (fields_of 1985) readback)
      (values-small 1985 b e).0 (lit< tt))

  digits-small : value_of frequency_rate_digits b < 10 ^ 5
  unfolding edition_of
  digits-small =
      ltb→lt _ _ (fit_at decimal_fits (fields_of 1985) (read_all (fields_of 1985) b) (place_of (fields_of 1985) frequency_rate_digits)
      (values-small 1985 b e).0 (lit< tt))

  -- sample 0 is at most two seconds before 0 h and, by the same bound, 1,000 seconds behind the tag: 11 characters
  time-small : length (signed_decimal (sample_time 1985 b 0)) ≤ 11
  unfolding sample_time
  time-small =
      let tag = value_of time_tag b in
      signed-length 10 (tagged_sample * second_us) (ms_us * tag + most_samples * second_us) (sample_time 1985 b 0) (lit< tt) (lit< tt)
      (omega (arith, (record-facts 1985 b e).tag)) (time-near tag (rate_hz (record_rate 1985 b)) 0 (lit< tt))

  rate-small : nat_abs (frequency_rate_of b) < 10 ^ 7 * 10 ^ 5
  unfolding frequency_rate_of
  rate-small =
      let d = value_of frequency_rate_digits b in
      let p = value_of frequency_rate_power b in
      let power = pow-le-pow_right {n = 10} (lit< tt) {i = p} {j = 7} (omega (arith, power_small b)) in
      let size = mul-le-mul {n₁ = d} {m₁ = 10 ^ p} {n₂ = 99999} {m₂ = 10 ^ 7} (omega (arith, digits-small)) power in
      omega (arith, rate-size d p (value_of frequency_rate_sign b), size)

  pub line_small : length (record_text b) ≤ longest_line
  unfolding record_text
  line_small =
      line-within (columns_of b) 5 11 1 8 7 (lit< tt) (lit< tt) (lit< tt) (lit< tt)
      (record {
        number = omega (arith, value-lt record_number b refl refl);
        first = time-small;
        origin = omega (arith, value-lt clock_origin b refl refl);
        frequency = frequency-small;
        rate = rate-small;
      })
