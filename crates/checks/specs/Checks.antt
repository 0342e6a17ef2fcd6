-- Refusal 25 and refusals 1 to 11 of an edition, in the order of checking. FORMAT, "Refusal numbers".
use Rattle.std.specs.Prelude.{ℕ, ◌*◌, ◌%◌, Bool, cond, not, ◌&&◌, ◌||◌, List, [], ◌∷◌, eqb, ltb}
use Rattle.answers.specs.Refusal.{Check, ◌when◌}
use Rattle.fields.specs.declared.Field.{Field}
use Rattle.header.specs.Edition.{is_unknown, sample_rate, sync_word, header_bytes, other_resolution}
use Rattle.header.specs.Rows.{
  clock_origin,
  conversion,
  compression,
  tape_number,
  record_number,
  length_words,
  year,
  day,
  time_tag,
  readback_tag,
}
use Rattle.sample_rates.specs.declared.SampleRate.{SampleRate}
use Rattle.sample_rates.specs.Rates.{is_no_rate, words_a, words_b}
use Rattle.editions.specs.Rates.{sample_rate_of}
use Rattle.checks.specs.declared.Judged.{Judged}

-- the last millisecond of a day, and the sync word A55A hex
abbrev pub last_ms : ℕ
last_ms = 86399999

abbrev pub sync_pattern : ℕ
sync_pattern = 42330

-- the last day of a year of two digits: 366 where it is divisible by 4, as 00 is, and 365 elsewhere
abbrev pub last_day : ℕ → ℕ
last_day year = cond (eqb (year % 4) 0) 366 365

-- 8: a year above 99, or a day that is 0 or after the year's last
abbrev pub wrong_date : ℕ → ℕ → Bool
wrong_date year day = ltb 99 year || (eqb day 0 || ltb (last_day year) day)

-- the checks in the edition n, by the line of the sample rate
abbrev pub checks_by : ℕ → SampleRate → Judged → List Check
checks_by n rate j =
    25 when is_unknown n ∷
    1 when ltb j.bytes (header_bytes n) ∷
    2 when not (eqb j.bytes (2 * j.length_words)) ∷
    3 when eqb j.conversion (other_resolution n) ∷
    4 when not (eqb j.compression 1) ∷
    5 when is_no_rate rate ∷
    6 when (not (eqb j.length_words (words_b rate)) && not (eqb j.length_words (words_a rate))) ∷
    7 when (eqb j.tape_number 0 || eqb j.record_number 0) ∷
    8 when wrong_date j.year j.day ∷
    9 when (ltb last_ms j.time_tag || ltb last_ms j.readback_tag) ∷
    10 when not j.decimals ∷
    11 when (eqb j.clock_origin 1 && not (eqb j.sync sync_pattern)) ∷
    []

abbrev pub checks : ℕ → Judged → List Check
checks n j = checks_by n (sample_rate_of n j.sample_rate) j

-- what is judged, in the edition n, of so many bytes whose header has these values, and whose decimal fields are decimal or not
abbrev pub judged_of : ℕ → ℕ → (Field → ℕ) → Bool → Judged
judged_of n bytes value decimals =
    record {
      bytes = bytes;
      length_words = value length_words;
      conversion = value conversion;
      compression = value compression;
      sample_rate = value (sample_rate n);
      tape_number = value tape_number;
      record_number = value record_number;
      year = value year;
      day = value day;
      time_tag = value time_tag;
      readback_tag = value readback_tag;
      decimals = decimals;
      clock_origin = value clock_origin;
      sync = value (sync_word n);
    }
