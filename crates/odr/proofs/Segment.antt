-- `odr_segment` loses no byte: the first `length` bytes of its answer are the segment. Assumes nothing.
use Prim.Native.Nat.{ℕ}
use mathlib.Core.Path.{◌≡◌, ◌∙◌}
use mathlib.Core.List.{List}
use lib.ListN.{take}
use Rattle.segments.specs.Question.{segment_answer}
use Rattle.c_answers.proofs.Segment.{room-for-segment}
use Rattle.c_answers.specs.declared.SegmentOut.{SegmentOut}
use Rattle.c_answers.specs.Out.{SegmentTold}

pub segment-whole : (n : ℕ) (this earlier : List ℕ) (number : ℕ) (r : SegmentOut) → SegmentTold r (segment_answer n this earlier number)
    → take r.length r.bytes ≡ (segment_answer n this earlier number).value
segment-whole n this earlier number r told = (λ i. take (told.size i) (told.bytes i)) ∙ room-for-segment n this earlier number
