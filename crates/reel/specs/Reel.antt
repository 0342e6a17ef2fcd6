-- What stands at a place of a reel of the edition n, its record, and the place after it. FORMAT, "The reel".
use Rattle.std.specs.Prelude.{ℕ, ◌+◌, ◌-◌, ◌*◌, ◌/◌, cond, ◌||◌, List, [], ◌∷◌, eqb, leb, ltb, length, take, drop}
use Rattle.fields.specs.Field.{value_of}
use Rattle.header.specs.Edition.{is_unknown, header_bytes}
use Rattle.header.specs.Rows.{length_words}
use Rattle.answers.specs.Refusal.{Check, ◌when◌, first, ◌then◌}
use Rattle.record.specs.Record.{record_refusal}

-- words of the header: no record is shorter
abbrev pub header_words : ℕ → ℕ
header_words n = header_bytes n / 2

-- the length in words of the record that what is left of a reel begins with
abbrev pub words_in : List ℕ → ℕ
words_in rest = value_of length_words rest

-- 1: fewer bytes left than a header, or a record shorter than one; 2: a record longer than what is left
abbrev pub rest_checks : ℕ → ℕ → ℕ → List Check
rest_checks n left words =
    1 when (ltb left (header_bytes n) || ltb words (header_words n)) ∷
    2 when ltb left (2 * words) ∷
    []

-- the refusal of the record that what is left begins with, or 0: 1, 2, then that of its own bytes, which is 3 to 11 (proofs/Rest)
unfoldable pub rest_refusal : ℕ → List ℕ → ℕ
rest_refusal n rest = first (rest_checks n (length rest) (words_in rest)) then record_refusal n (take (2 * words_in rest) rest)

-- a record from its start to its end, or nothing more, or a refusal
pub data Found : Type 0 where
  accepted : ℕ → ℕ → Found
  finished : Found
  refused : ℕ → Found

-- what stands at a place that is not past the end, by what is left
abbrev pub found_in : ℕ → ℕ → List ℕ → Found
found_in n place rest =
    cond (eqb (rest_refusal n rest) 0) (accepted place (place + 2 * words_in rest)) (refused (rest_refusal n rest))

-- what stands at a place of a reel: 25 at every place where the edition is unknown; past the end nothing more
unfoldable pub step_at : ℕ → List ℕ → ℕ → Found
step_at n reel place =
    cond (is_unknown n) (refused 25) (cond (leb (length reel) place) finished (found_in n place (drop place reel)))

-- the bytes of what was found: a record's own, else none
abbrev pub bytes_found : Found → List ℕ → List ℕ
bytes_found (accepted start end) reel = take (end - start) (drop start reel)
bytes_found finished reel = []
bytes_found (refused k) reel = []

-- the place after what was found: a record's end, else the place itself
abbrev pub place_after : Found → ℕ → ℕ
place_after (accepted start end) place = end
place_after finished place = place
place_after (refused k) place = place

-- the record at a place, empty where there is none
abbrev pub record_at : ℕ → List ℕ → ℕ → List ℕ
record_at n reel place = bytes_found (step_at n reel place) reel

-- the place after a step
abbrev pub next_place : ℕ → List ℕ → ℕ → ℕ
next_place n reel place = place_after (step_at n reel place) place
