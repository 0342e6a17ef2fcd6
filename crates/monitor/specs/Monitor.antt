-- The words after a record's samples, and which of two records of one edition a segment is taken from. A segment is its row here,
-- from 0, in the order of the status bits. FORMAT, "Monitor segments".
use Rattle.std.specs.Prelude.{ℕ, ◌+◌, ◌-◌, ◌*◌, Bool, cond, not, ◌&&◌, List, [], ◌∷◌, eqb, leb, take, drop}
use Rattle.std.specs.Borrow.{Bor}
use Rattle.bits.specs.Bits.{get_bits}
use Rattle.header.specs.Edition.{no_segments}
use Rattle.sample_rates.specs.Rates.{last_sample_word, layout1985}
use Rattle.answers.specs.Answer.{Answer, unless}
use Rattle.answers.specs.Refusal.{◌when◌, first, ◌then◌}
use Rattle.record.specs.Record.{record_refusal}
use Rattle.record.specs.Stretch.{record_rate}

-- N of a record of the edition n, by its own rate
unfoldable pub last_sample_word_of : ℕ → List ℕ → ℕ
last_sample_word_of n b = last_sample_word (record_rate n b)

-- no record of any edition has a greater N
abbrev pub most_last_word : ℕ
most_last_word = 2083

-- the words after the samples, in an edition that has segments: 150, as its layout says
abbrev pub monitor_words : ℕ
monitor_words = layout1985.monitor-words

-- the first byte of word w after N, w from 1
abbrev pub monitor_byte : ℕ → List ℕ → ℕ → ℕ
monitor_byte n b w = 2 * (last_sample_word_of n b + w - 1)

-- the bytes of `count` words after N from word `first` on
unfoldable pub monitor_bytes : ℕ → List ℕ → ℕ → ℕ → List ℕ
monitor_bytes n b first count = take (2 * count) (drop (monitor_byte n b first) b)

-- bit k, from 1, of word w after N
abbrev pub monitor_bit : ℕ → List ℕ → ℕ → ℕ → ℕ
monitor_bit n b w k = get_bits (8 * monitor_byte n b w + (k - 1)) 1 b

-- whether the segment of a row is new in the record: the status is word 1, and its bits 1 to 7 are those of rows 0 to 6
unfoldable pub is_new : ℕ → List ℕ → ℕ → Bool
is_new n b row = eqb (monitor_bit n b 1 (row + 1)) 1

abbrev pub segment_count : ℕ
segment_count = 7

-- the place in a list, from 0, of the first entry that is the number, or the list's length where none is
unfoldable pub place_in : List ℕ → ℕ → ℕ
place_in [] number = 0
place_in (m ∷ ms) number = cond (eqb m number) 0 (1 + place_in ms number)

-- past the last row: there is no such segment
abbrev pub is_no_row : ℕ → Bool
is_no_row row = leb segment_count row

-- this record is checked, 25 among its refusals, then the earlier one, then 26, 20 and 23
abbrev pub row_refusal : ℕ → List ℕ → List ℕ → ℕ → ℕ
row_refusal n this earlier row =
    record_refusal n this
    then record_refusal n earlier
    then first
    (26 when no_segments n ∷
    20 when is_no_row row ∷
    23 when (not (is_new n this row) && not (is_new n earlier row)) ∷
    [])

-- this record if the segment is new there, else the earlier one
unfoldable pub chosen_record : ℕ → List ℕ → List ℕ → ℕ → List ℕ
chosen_record n this earlier row = cond (is_new n this row) this earlier

-- the row, and the record that is chosen; beside a refusal none
abbrev pub choice : ℕ → List ℕ → List ℕ → ℕ → Answer (ℕ × List ℕ)
choice n this earlier row = unless (row_refusal n this earlier row) (0, []) (row, chosen_record n this earlier row)

-- the same of the code's row and record
abbrev pub choice_of : ℕ × Bor (List ℕ) → ℕ × List ℕ
choice_of c = (c.0, c.1.now)

-- the bytes of `count` words from word `first` on, of the record that is chosen; none beside a refusal
abbrev pub row_answer : ℕ → List ℕ → List ℕ → ℕ → ℕ → ℕ → Answer (List ℕ)
row_answer n this earlier row first count =
    unless (row_refusal n this earlier row) [] (monitor_bytes n (chosen_record n this earlier row) first count)
