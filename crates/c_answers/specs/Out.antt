-- What comes back across the boundary to C and Rust (c/odr.h), where that is not an answer's own number and value: beside a refusal
-- 0 throughout. FORMAT, "Refusal numbers".
use Rattle.std.specs.Prelude.{ℕ, ◌≡◌, ◌*◌, false, cond, pos, Float, List, length, get_or, Option, is_some}
use Rattle.std.specs.Option.{unwrap_or}
use Rattle.std.specs.Float.{fin}
use Rattle.lists.specs.Fill.{tab}
use Rattle.answers.specs.Answer.{Answer, told}
use Rattle.editions.specs.declared.RateLine.{RateLine}
use Rattle.index_model.specs.Second.{SecondTotals}
use Rattle.reel.specs.Reel.{Found, accepted, finished, refused}
use Rattle.segments.specs.Segments.{most_words}
use Rattle.c_answers.specs.declared.RateLineOut.{RateLineOut}
use Rattle.c_answers.specs.declared.SecondOut.{SecondOut}
use Rattle.c_answers.specs.declared.PhasesOut.{PhasesOut}
use Rattle.c_answers.specs.declared.StepOut.{StepOut}
use Rattle.c_answers.specs.declared.SegmentOut.{SegmentOut}
use Rattle.c_answers.specs.declared.BadBlockOut.{BadBlockOut}

-- what lent memory for one value holds after an answer: the value, or what it held beside a refusal
abbrev pub value_or : {A : Type 0} → A → Answer A → A
value_or old a = cond a.given a.value old

-- what follows from a rate, and a second's totals and verdict, as answers
abbrev pub rate_line_in : RateLineOut → Answer RateLine
rate_line_in r = told r.refusal (record { samples = r.samples; records = r.records; interval_us = r.interval_us })

abbrev pub second_in : SecondOut → Answer SecondTotals
second_in r =
    told r.refusal
    (record { records = r.records; origins = r.origins; errors = r.errors; channels = r.channels; kept = r.kept })

-- two phases; 0 beside a refusal
abbrev pub zero_float : Float
zero_float = fin false 0 (pos 0)

pub record PhasesTold (r : PhasesOut) (a : Answer (List Float)) : Type 0 where
  pub number : r.refusal ≡ a.number
  pub first : r.first ≡ get_or a.value 0 zero_float
  pub second : r.second ≡ get_or a.value 1 zero_float

-- the bytes that a segment's answer has room for: no segment is longer (proofs/Segment)
abbrev pub longest_segment : ℕ
longest_segment = 2 * most_words

-- a segment's bytes and their number, none beside a refusal; 0 fills what is left
pub record SegmentTold (r : SegmentOut) (a : Answer (List ℕ)) : Type 0 where
  pub number : r.refusal ≡ a.number
  pub size : r.length ≡ length a.value
  pub bytes : r.bytes ≡ tab (λ (k : ℕ). get_or a.value k 0) 0 longest_segment

-- what stands at a place of a reel: a record's start and end, 255 at the end of the reel, or the refusal
abbrev pub finished_number : ℕ
finished_number = 255

abbrev pub step_number : Found → ℕ
step_number (accepted start end) = 0
step_number finished = finished_number
step_number (refused n) = n

abbrev pub step_start : Found → ℕ
step_start (accepted start end) = start
step_start finished = 0
step_start (refused n) = 0

abbrev pub step_end : Found → ℕ
step_end (accepted start end) = end
step_end finished = 0
step_end (refused n) = 0

pub record StepTold (r : StepOut) (f : Found) : Type 0 where
  pub number : r.answer ≡ step_number f
  pub start : r.start ≡ step_start f
  pub end : r.end ≡ step_end f

-- whether some whole block's check is bad, and the index of the first; 0 beside none
pub record BadBlockTold (r : BadBlockOut) (bad : Option ℕ) : Type 0 where
  pub found : r.found ≡ is_some bad
  pub index : r.index ≡ unwrap_or bad 0
