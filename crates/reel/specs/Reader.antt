-- A reel reader and its walk. FORMAT, "The reel".
use Rattle.std.specs.Prelude.{ℕ, zero, suc, Bool, true, false, List, Option, Some, None}
use Rattle.std.specs.Borrow.{Bor}
use Rattle.answers.specs.Answer
use Rattle.answers.specs.Answer.{Answer}
use Rattle.reel.specs.Reel.{Found, accepted, finished, refused, step_at, bytes_found, record_at}
use Rattle.reel.specs.Walk.{Walk, is_record, stopped, handing}
use Rattle.reel.specs.declared.Reader.{Reader}

-- at the start of a reel
abbrev pub at_start : ℕ → Bor (List ℕ) → Reader
at_start n reel = record { edition = n; reel = reel; place = 0 }

-- after what was found: on the same reel past a record, else as it was
abbrev pub moved_by : Found → Reader → Reader
moved_by (accepted start end) reader = record { edition = reader.edition; reel = reader.reel; place = end }
moved_by finished reader = reader
moved_by (refused k) reader = reader

-- what stands at the reader's place, the record there, and the reader after a step
abbrev pub step_of : Reader → Found
step_of reader = step_at reader.edition reader.reel.now reader.place

abbrev pub record_of : Reader → List ℕ
record_of reader = record_at reader.edition reader.reel.now reader.place

abbrev pub moved_on : Reader → Reader
moved_on reader = moved_by (step_of reader) reader

-- what is read at the reader's place: the bytes of the record there, nothing more, or the refusal
abbrev pub answer_of : Found → List ℕ → Answer (Option (List ℕ))
answer_of (accepted start end) reel = Answer.accepted (Some (bytes_found (accepted start end) reel))
answer_of finished reel = Answer.accepted None
answer_of (refused k) reel = Answer.refused None k

abbrev pub bytes_answer : Reader → Answer (Option (List ℕ))
bytes_answer reader = answer_of (step_of reader) reader.reel.now

-- where a record stands it is handed out, and the walk goes on with the reader moved on
abbrev pub read_onward : (Reader → Walk) → Reader → Bool → Walk
read_onward rest reader true = handing (record_of reader) (rest (moved_on reader))
read_onward rest reader false = stopped reader.edition reader.reel.now reader.place

-- a reader's walk of at most so many records
unfoldable pub reader_walk : ℕ → Reader → Walk
reader_walk zero reader = stopped reader.edition reader.reel.now reader.place
reader_walk (suc most) reader = read_onward (reader_walk most) reader (is_record (step_of reader))
