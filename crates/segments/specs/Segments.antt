-- The seven segments of the power monitor as one list, and its rule. FORMAT, "Monitor segments".
use Rattle.std.specs.Prelude.{ℕ, ◌+◌, ◌-◌, ◌≤◌, max, Bool, true, ◌&&◌, List, [], ◌∷◌, map, eqb, leb, get_or}
use Rattle.lists.specs.Tests.{all}
use Rattle.monitor.specs.Monitor.{monitor_words}
use Rattle.segments.specs.declared.Row.{Row}

-- a row: the segment's number, its first word, counted from 1 after N, and how many words it has
abbrev pub segment : ℕ → ℕ → ℕ → Row
segment number first words = record { 0 = number; 1 = first; 2 = words }

-- Figure RSC-11-10-3 of 1985 as a list, in the order of the status bits; behind each row what the figure calls the segment. The
-- columns: the number in SEGMENT .. DATA, the WORD at which that begins, the count in (.. WORDS)
abbrev pub segments : List Row
segments =
    segment 7 6 45 ∷  -- CONFIGURATION SEGMENT
    segment 5 51 13 ∷  -- STATUS SEGMENT
    segment 2 64 15 ∷  -- 64-M NOISE TEMPERATURE SEGMENT
    segment 6 79 15 ∷  -- 34-M STANDARD NOISE TEMPERATURE SEGMENT (the figure misprints 64 for 79)
    segment 10 94 15 ∷  -- 34-M HEA NOISE TEMPERATURE SEGMENT
    segment 4 109 20 ∷  -- SIGNAL LEVEL SEGMENT - SLE #1
    segment 8 129 20 ∷  -- SIGNAL LEVEL SEGMENT - SLE #2
    []

-- what stands past the end of the list
abbrev pub no_segment : Row
no_segment = segment 0 0 0

-- what a row says
abbrev pub segment_number : Row → ℕ
segment_number s = s.0

abbrev pub first_word : Row → ℕ
first_word s = s.1

abbrev pub word_count : Row → ℕ
word_count s = s.2

abbrev pub last_word : Row → ℕ
last_word s = first_word s + word_count s - 1

abbrev pub segment_at : ℕ → Row
segment_at row = get_or segments row no_segment

abbrev pub segment_numbers : List ℕ
segment_numbers = map segment_number segments

-- the words of the longest segment of a list
abbrev pub most_in : List Row → ℕ
most_in [] = 0
most_in (s ∷ ss) = max (word_count s) (most_in ss)

abbrev pub most_words : ℕ
most_words = most_in segments

-- a segment has words, no more than the longest, and they are among the monitor words
pub record SoundSegment (s : Row) : Type 0 where
  pub first : 1 ≤ first_word s
  pub some : 1 ≤ word_count s
  pub most : word_count s ≤ most_words
  pub end : last_word s ≤ monitor_words

-- the one test of the list: each segment starts at the word after the last one of the row before, has a word but no more than the
-- longest, and ends by the last monitor word
abbrev pub word_tests : ℕ → Row → List Bool
word_tests before s =
    eqb (first_word s) (before + 1) ∷
    leb 1 (word_count s) ∷
    leb (word_count s) most_words ∷
    leb (last_word s) monitor_words ∷
    []

abbrev pub sound_after : ℕ → List Row → Bool
sound_after before [] = true
sound_after before (s ∷ ss) = all (word_tests before s) && sound_after (last_word s) ss
