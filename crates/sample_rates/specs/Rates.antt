-- The sample rates of each edition as a table, and what follows from a rate. FORMAT, "Rates".
use Rattle.std.specs.Prelude.{ℕ, ◌+◌, ◌*◌, ◌/◌, ◌%◌, Bool, true, cond, ◌&&◌, List, [], ◌∷◌, eqb, leb}
use Rattle.lists.specs.Tests.{all}
use Rattle.sample_rates.specs.declared.SampleRate.{SampleRate}

-- a line: rate, records a second L, samples a channel, N, words in OP-B, words in OP-A
abbrev pub line : ℕ → ℕ → ℕ → ℕ → ℕ → ℕ → SampleRate
line hz l samples n longer shorter =
    record { hz = hz; records = l; samples = samples; last_word = n; words_b = longer; words_a = shorter }

abbrev pub rates1985 : List SampleRate
rates1985 =
    line 50000 50 1000 2040 2195 2190 ∷
    line 20000 20 1000 2040 2195 2190 ∷
    line 10000 10 1000 2040 2195 2190 ∷
    line 5000 5 1000 2040 2195 2190 ∷
    line 2000 2 1000 2040 2195 2190 ∷
    line 1000 2 500 1040 1195 1190 ∷
    line 200 2 100 240 395 390 ∷
    []

-- a line of 1992: rate, samples a channel, records a second L, words; nothing follows the samples, so its one length is N too
abbrev pub line1992 : ℕ → ℕ → ℕ → ℕ → SampleRate
line1992 hz samples l words = line hz l samples words words words

-- the 8-bit lines of its Table 1
abbrev pub rates1992 : List SampleRate
rates1992 =
    line1992 50000 1000 50 2083 ∷
    line1992 31250 625 50 1333 ∷
    line1992 25000 1000 25 2083 ∷
    line1992 20000 1000 20 2083 ∷
    line1992 15625 625 25 1333 ∷
    line1992 12500 625 20 1333 ∷
    line1992 10000 1000 10 2083 ∷
    line1992 6250 625 10 1333 ∷
    line1992 5000 1000 5 2083 ∷
    line1992 4000 1000 4 2083 ∷
    line1992 3125 625 5 1333 ∷
    line1992 2500 625 4 1333 ∷
    line1992 2000 1000 2 2083 ∷
    line1992 1250 625 2 1333 ∷
    line1992 1000 500 2 1083 ∷
    line1992 500 250 2 583 ∷
    line1992 400 200 2 483 ∷
    line1992 250 125 2 333 ∷
    line1992 200 100 2 283 ∷
    []

-- the line of no rate
abbrev pub no_rate : SampleRate
no_rate = line 0 0 0 0 0 0

-- the first line of a table that has the rate, or the line of no rate
unfoldable pub line_in : List SampleRate → ℕ → SampleRate
line_in [] hz = no_rate
line_in (l ∷ ls) hz = cond (eqb l.hz hz) l (line_in ls hz)

-- what a line says
abbrev pub rate_hz : SampleRate → ℕ
rate_hz l = l.hz

abbrev pub records_per_second : SampleRate → ℕ
records_per_second l = l.records

abbrev pub samples_per_record : SampleRate → ℕ
samples_per_record l = l.samples

abbrev pub last_sample_word : SampleRate → ℕ
last_sample_word l = l.last_word

abbrev pub words_b : SampleRate → ℕ
words_b l = l.words_b

abbrev pub words_a : SampleRate → ℕ
words_a l = l.words_a

-- no line of the table has the rate
abbrev pub is_no_rate : SampleRate → Bool
is_no_rate l = eqb (rate_hz l) 0

-- the microseconds of a second, and those from a sample to the next; 0 for the line of no rate
abbrev pub second_us : ℕ
second_us = 1000000

abbrev pub interval_us : SampleRate → ℕ
interval_us l = cond (is_no_rate l) 0 (second_us / rate_hz l)

-- no record has more samples of a channel
abbrev pub most_samples : ℕ
most_samples = 1000

-- ## the one test of a table

-- what a record of an edition has beside its samples: the bytes of the header before them, and after them the monitor words
-- and, in the longer of a rate's two lengths, the operator offsets
pub record Layout : Type 0 where
  pub header-bytes : ℕ
  pub monitor-words : ℕ
  pub offset-words : ℕ

abbrev pub layout1985 : Layout
layout1985 = record { header-bytes = 80; monitor-words = 150; offset-words = 5 }

abbrev pub layout1992 : Layout
layout1992 = record { header-bytes = 166; monitor-words = 0; offset-words = 0 }

-- L records of a line's samples make a second of the rate, a million divides evenly, the header and four bytes a sample end at
-- word N, the monitor words follow, and in the longer record the operator offsets
abbrev pub line_tests : Layout → SampleRate → List Bool
line_tests layout l =
    leb 1 (rate_hz l) ∷
    eqb (records_per_second l * samples_per_record l) (rate_hz l) ∷
    eqb (second_us % rate_hz l) 0 ∷
    eqb (2 * last_sample_word l) (layout.header-bytes + 4 * samples_per_record l) ∷
    eqb (words_a l) (last_sample_word l + layout.monitor-words) ∷
    eqb (words_b l) (last_sample_word l + (layout.monitor-words + layout.offset-words)) ∷
    leb 1 (samples_per_record l) ∷
    leb (samples_per_record l) most_samples ∷
    []

abbrev pub sound_line : Layout → SampleRate → Bool
sound_line layout l = all (line_tests layout l)

abbrev pub sound_lines : Layout → List SampleRate → Bool
sound_lines layout [] = true
sound_lines layout (l ∷ ls) = sound_line layout l && sound_lines layout ls
