-- Opening, what it returns, and what that decides without a look at any cell: 13 to 17. FORMAT, "The index of seconds",
-- "Refusal numbers".
use Rattle.std.specs.Prelude.{ℕ, ◌+◌, ◌-◌, ◌*◌, Bool, cond, not, ◌&&◌, ◌||◌, [], ◌∷◌, eqb, ltb, leb, length}
use Rattle.lists.specs.Fill.{over}
use Rattle.fields.specs.Field.{value_of}
use Rattle.header.specs.Rows.{tape_number, spacecraft, spc, year, day}
use Rattle.header.specs.Edition.{is_unknown}
use Rattle.sample_rates.specs.declared.SampleRate.{SampleRate}
use Rattle.sample_rates.specs.Rates.{is_no_rate}
use Rattle.editions.specs.Rates.{sample_rate_of}
use Rattle.answers.specs.Answer.{Answer, unless}
use Rattle.checks.specs.Checks.{wrong_date}
use Rattle.answers.specs.Refusal.{◌when◌, first, ◌then◌}
use Rattle.index_model.specs.declared.Opening.{Opening}
use Rattle.index_model.specs.Records.{Record, refusal_of, rate_in}
use Rattle.index_model.specs.Cells.{width}
use Rattle.index_model.specs.Buffers.{Buffers}

abbrev pub highest_limit : ℕ
highest_limit = 65535

abbrev pub day_seconds : ℕ
day_seconds = 86400

-- ## 13 and 14

-- R outside 1 to 65,535, C outside 1 to 86,400, or F + C above 86,400
unfoldable pub limits_wrong : Opening → Bool
limits_wrong o =
    eqb o.highest_number 0
    || ltb highest_limit o.highest_number
    || eqb o.second_count 0
    || ltb day_seconds o.second_count
    || ltb day_seconds (o.first_second + o.second_count)

-- the line of the held rate, in the held edition
abbrev pub held_rate : Opening → SampleRate
held_rate o = sample_rate_of o.edition o.sample_rate_hz

-- a held edition, rate, tape number or date that 25, 5, 7 or 8 refuses
unfoldable pub held_wrong : Opening → Bool
held_wrong o = is_unknown o.edition || is_no_rate (held_rate o) || eqb o.tape_number 0 || wrong_date o.year o.day

-- fewer row cells than those of R rows, or fewer second cells than those of C seconds
unfoldable pub too_small : Opening → Buffers → Bool
too_small o c = ltb (length c.rows) (width * o.highest_number) || ltb (length c.seconds) (width * o.second_count)

-- what every call after opening judges of the value that opening returned and of the buffers lent to it
unfoldable pub opening_refusal : Opening → Buffers → ℕ
opening_refusal o c = first (13 when (limits_wrong o || held_wrong o) ∷ 14 when too_small o c ∷ [])

-- ## 15 to 17

-- a record of another reel: edition, rate, year, day, tape, spacecraft or SPC differ from the pattern's
unfoldable pub other_reel : Opening → Record → Bool
other_reel o b =
    not (eqb b.edition o.edition)
    || not (eqb (rate_in b) o.sample_rate_hz)
    || not (eqb (value_of year b.bytes) o.year)
    || not (eqb (value_of day b.bytes) o.day)
    || not (eqb (value_of tape_number b.bytes) o.tape_number)
    || not (eqb (value_of spacecraft b.bytes) o.spacecraft)
    || not (eqb (value_of spc b.bytes) o.spc)

-- a record number outside 1 to R
unfoldable pub is_outside : Opening → ℕ → Bool
is_outside o n = eqb n 0 || ltb o.highest_number n

-- second s is one of F to F + C - 1
unfoldable pub in_window : Opening → ℕ → Bool
in_window o s = leb o.first_second s && ltb s (o.first_second + o.second_count)

-- its place among the seconds of the window, from 0
abbrev pub window_place : Opening → ℕ → ℕ
window_place o s = s - o.first_second

-- ## opening itself

-- F, C and R as given, and the pattern's edition and values that 15 compares
abbrev pub opening_of : Record → ℕ → ℕ → ℕ → Opening
opening_of pattern F C R =
    record {
      first_second = F;
      second_count = C;
      highest_number = R;
      edition = pattern.edition;
      sample_rate_hz = rate_in pattern;
      tape_number = value_of tape_number pattern.bytes;
      year = value_of year pattern.bytes;
      day = value_of day pattern.bytes;
      spacecraft = value_of spacecraft pattern.bytes;
      spc = value_of spc pattern.bytes;
    }

-- beside a refusal: 0 throughout
abbrev pub no_opening : Opening
no_opening =
    record {
      first_second = 0;
      second_count = 0;
      highest_number = 0;
      edition = 0;
      sample_rate_hz = 0;
      tape_number = 0;
      year = 0;
      day = 0;
      spacecraft = 0;
      spc = 0;
    }

-- the cells of the numbers 1 to R and of the C seconds of the window made 0, and none beyond touched
abbrev pub cleared : ℕ → ℕ → Buffers → Buffers
cleared C R c =
    record { rows = over c.rows (λ (k : ℕ). 0) (width * R); seconds = over c.seconds (λ (k : ℕ). 0) (width * C) }

module _ (pattern : Record) (F C R : ℕ) (c : Buffers) where
  -- 25 and 1 to 11 of the pattern, then 13, then 14
  unfoldable pub open_refusal : ℕ
  open_refusal =
      refusal_of pattern
      then first
      (13 when limits_wrong (opening_of pattern F C R)
      ∷ 14 when too_small (opening_of pattern F C R) c
      ∷ [])

  unfoldable pub open_answer : Answer Opening
  open_answer = unless open_refusal no_opening (opening_of pattern F C R)

  -- the buffers after opening: a refusal touches no cell
  unfoldable pub opened : Buffers
  opened = cond (eqb open_refusal 0) (cleared C R c) c
