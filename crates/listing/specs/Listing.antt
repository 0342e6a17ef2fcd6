-- What the lister writes of a reel of 1985, and what a call answers that writes text into a lent buffer. FORMAT, "The listing",
-- "Refusal numbers". The lines themselves are in crate `text`, the walk along a reel in crate `reel`.
use Rattle.std.specs.Prelude.{ℕ, ◌+◌, ◌*◌, ◌/◌, cond, List, [], ◌∷◌, ◌++◌, eqb, ltb, length, drop}
use Rattle.answers.specs.Answer.{Answer, unless}
use Rattle.answers.specs.Refusal.{◌then◌}
use Rattle.fields.specs.Field.{value_of}
use Rattle.header.specs.Rows.{clock_origin, record_number, readback}
use Rattle.frequency_rate.specs.FrequencyRate.{frequency_rate_of}
use Rattle.record.specs.Record.{record_refusal}
use Rattle.times.specs.SampleTime.{sample_time}
use Rattle.reel.specs.Reel.{Found, accepted, finished, refused, step_at, record_at}
use Rattle.reel.specs.Walk.{Walk, is_record, walk_from, walk}
use Rattle.text.specs.declared.Columns.{Columns}
use Rattle.text.specs.Text.{header_line, record_line, refused_line, line_length}
use Rattle.text.specs.Placed.{refusal_at}

-- 24: an input that is longer
abbrev pub longest_input : ℕ
longest_input = 65536

-- the columns of a record: its number, the time of sample 0, clock origin, readback frequency and frequency rate
abbrev pub columns_of : List ℕ → Columns
columns_of b =
    record {
      number = value_of record_number b;
      first_us = sample_time 1985 b 0;
      origin = value_of clock_origin b;
      frequency_uhz = value_of readback b;
      frequency_rate_units = frequency_rate_of b;
    }

-- its line
unfoldable pub record_text : List ℕ → List ℕ
record_text b = record_line (columns_of b)

-- the lines of records, one behind the other
unfoldable pub record_texts : List (List ℕ) → List ℕ
record_texts [] = []
record_texts (b ∷ bs) = record_text b ++ record_texts bs

-- behind the last record: a line for a refusal, nothing at the end of the reel
abbrev pub last_text : Found → List ℕ
last_text (accepted start end) = []
last_text finished = []
last_text (refused n) = refused_line n

-- the lines of a walk: those of its records, and that of the refusal that ends it
abbrev pub walk_text : Walk → List ℕ
walk_text w = record_texts w.records ++ last_text w.last

-- those of the walk from a place on: no reel has more records than bytes
abbrev pub text_from : List ℕ → ℕ → List ℕ
text_from reel place = walk_text (walk_from 1985 reel (length reel) place)

-- of them, the line of what stands at the place: a record's, or a refusal's; nothing at the end of the reel
unfoldable pub line_at : List ℕ → ℕ → List ℕ
line_at reel place =
    cond (is_record (step_at 1985 reel place)) (record_text (record_at 1985 reel place)) (last_text (step_at 1985 reel place))

-- the header line comes first; 24 is judged before any record
unfoldable pub listing : List ℕ → List ℕ
listing input = header_line ++ cond (ltb longest_input (length input)) (refused_line 24) (walk_text (walk 1985 input))

-- ## the longest listing

-- the shortest record: 390 words, those of OP-A at a rate of 200
abbrev pub shortest_record : ℕ
shortest_record = 2 * 390

-- an input that 24 does not refuse holds at most 84 records, since 84 * 780 is 65,520
abbrev pub most_records : ℕ
most_records = longest_input / shortest_record

-- the longest line of a record: a number of 5 digits, a time of 11 (86,399,998,960; below zero it has fewer, minus and all), the
-- clock origin, 8 digits before the point of the frequency and 7 before that of the rate: 51 bytes
abbrev pub longest_line : ℕ
longest_line = line_length 5 11 1 8 7

-- the longest listing: the header line, that many longest lines and, for the 16 bytes then left, `refused,1`: 41 + 84 * 51 + 10
-- bytes
abbrev pub longest_listing : ℕ
longest_listing = length header_line + most_records * longest_line + length (refused_line 1)

-- ## the answers

-- 21: the buffer holds fewer bytes than the text
abbrev pub text_refusal : List ℕ → List ℕ → ℕ
text_refusal out text = refusal_at out 0 text

-- the answer of a call that writes a text: the text's length, or the refusal n
unfoldable pub text_answer : ℕ → List ℕ → Answer ℕ
text_answer n text = unless n 0 (length text)

-- the buffer after it: the text, then what the buffer held past it; a refusal changes nothing
abbrev pub text_over : List ℕ → List ℕ → List ℕ
text_over text out = text ++ drop (length text) out

unfoldable pub buffer_after : ℕ → List ℕ → List ℕ → List ℕ
buffer_after n out text = cond (eqb n 0) (text_over text out) out

-- the line of a record: 1 to 11, then 21
unfoldable pub line_refusal : List ℕ → List ℕ → ℕ
line_refusal b out = record_refusal 1985 b then text_refusal out (record_text b)

abbrev pub line_answer : List ℕ → List ℕ → Answer ℕ
line_answer b out = text_answer (line_refusal b out) (record_text b)

abbrev pub line_after : List ℕ → List ℕ → List ℕ
line_after b out = buffer_after (line_refusal b out) out (record_text b)

-- the whole listing: 21 alone, since any other refusal is a line of it
abbrev pub list_answer : List ℕ → List ℕ → Answer ℕ
list_answer input out = text_answer (text_refusal out (listing input)) (listing input)

abbrev pub list_after : List ℕ → List ℕ → List ℕ
list_after input out = buffer_after (text_refusal out (listing input)) out (listing input)
