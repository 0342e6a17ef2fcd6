-- An answer has room for every segment: none is longer than its bytes, so that the first ones are the segment. Assumes nothing.
use Prim.Native.Nat.{ℕ, ◌≤◌}
use mathlib.Core.Path.{◌≡◌, ◌∙◌}
use mathlib.Core.List.{List}
use native.Mathlib.Omega.{arith}
use lib.ListN.{length, take, get_or, length-take}
use lib.Seq.{ext_get_or, get_or-take}
use Rattle.lists.specs.Fill.{tab}
use Rattle.lists.proofs.Fill.{length-tab, get_or-tab}
use Rattle.segments.specs.Question.{segment_answer}
use Rattle.segments.proofs.Given.{at_most}
use Rattle.c_answers.specs.Out.{longest_segment}

-- the first bytes of a list, and then 0, begin with the list
begins : (l : List ℕ) → length l ≤ longest_segment → take (length l) (tab (λ (k : ℕ). get_or l k 0) 0 longest_segment) ≡ l
begins l h =
    ext_get_or 0 (take (length l) padded) l size
    (λ i p. get_or-take (length l) padded i 0 (omega (arith, size, p))
    ∙ get_or-tab (λ (k : ℕ). get_or l k 0) longest_segment i 0 (omega (arith, size, p, h)))
  where
    padded : List ℕ
    padded = tab (λ (k : ℕ). get_or l k 0) 0 longest_segment

    size : length (take (length l) padded) ≡ length l
    size = simp length-take (omega (arith, length-tab (λ (k : ℕ). get_or l k 0) 0 longest_segment))

pub room-for-segment : (n : ℕ) (this earlier : List ℕ) (number : ℕ)
    → take (length (segment_answer n this earlier number).value)
    (tab (λ (k : ℕ). get_or (segment_answer n this earlier number).value k 0) 0 longest_segment)
    ≡ (segment_answer n this earlier number).value
room-for-segment n this earlier number = begins (segment_answer n this earlier number).value (at_most n this earlier number)
