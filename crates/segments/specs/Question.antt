-- The segment question: a segment is asked for by its number, with two records of one edition. FORMAT, "Monitor segments".
use Rattle.std.specs.Prelude.{ℕ, List}
use Rattle.answers.specs.Answer.{Answer}
use Rattle.monitor.specs.Monitor.{place_in, monitor_bytes, row_answer}
use Rattle.segments.specs.declared.Row.{Row}
use Rattle.segments.specs.Segments.{segment_numbers, first_word, word_count, segment_at}

-- the row of a segment's number
unfoldable pub segment_row : ℕ → ℕ
segment_row number = place_in segment_numbers number

-- the bytes of a segment in the record
abbrev pub segment_bytes : ℕ → List ℕ → Row → List ℕ
segment_bytes n b s = monitor_bytes n b (first_word s) (word_count s)

-- the answer for a row of the list
abbrev pub answer_at : ℕ → List ℕ → List ℕ → ℕ → Answer (List ℕ)
answer_at n this earlier row = row_answer n this earlier row (first_word (segment_at row)) (word_count (segment_at row))

-- by the segment's number
unfoldable pub segment_answer : ℕ → List ℕ → List ℕ → ℕ → Answer (List ℕ)
segment_answer n this earlier number = answer_at n this earlier (segment_row number)
