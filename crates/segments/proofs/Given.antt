-- The answer of the segment question: there are bytes exactly where nothing is refused, and never more than the longest segment
-- has. Assumes nothing.
use Prim.Native.Nat.{ℕ, ◌*◌, ◌≤◌, ◌<◌}
use mathlib.Core.Path.{◌≡◌, refl}
use mathlib.Core.Bool.{Bool, true, false, cond}
use mathlib.Core.List.{List, []}
use native.Mathlib.Omega.{arith}
use lib.Dec.{eqb}
use lib.ListN.{length, length-take, length-drop}
use borrow.Author.Tests.{eqb-true, eqb-false}
use Rattle.answers.specs.Answer.{Answer, accepted, refused}
use Rattle.monitor.specs.Monitor.{segment_count, monitor_bytes, row_refusal, chosen_record}
use Rattle.monitor.proofs.Monitor.{WordsInside, row-there, chosen-inside}
use Rattle.segments.specs.Segments.{segment_at, most_words}
use Rattle.segments.specs.Question.{segment_row, segment_bytes, segment_answer}
use Rattle.segments.proofs.Sound.{sound-segment}

-- the length of a segment
module _ (n : ℕ) (b : List ℕ) (row : ℕ) (there : row < segment_count) where
  bytes-few : length (segment_bytes n b (segment_at row)) ≤ 2 * most_words
  unfolding monitor_bytes
  bytes-few = simp length-take (omega (arith, (sound-segment row there).most))

  bytes-some : WordsInside n b → 0 < length (segment_bytes n b (segment_at row))
  unfolding monitor_bytes
  bytes-some inside =
      let s = sound-segment row there in
      simp (length-take, length-drop) (omega (arith, s.first, s.some, s.end, inside))

module _ (n : ℕ) (this earlier : List ℕ) (number : ℕ) where
  abbrev row : ℕ
  row = segment_row number

  abbrev refusal : ℕ
  refusal = row_refusal n this earlier row

  abbrev chosen : List ℕ
  chosen = chosen_record n this earlier row

  abbrev by : Bool → Answer (List ℕ)
  by t = cond t (accepted (segment_bytes n chosen (segment_at row))) (refused [] refusal)

  -- its number is the refusal of the row
  pub refusal-number : refusal ≡ (segment_answer n this earlier number).number
  unfolding segment_answer
  refusal-number = by-test (eqb refusal 0) refl
    where
      by-test : (t : Bool) → eqb refusal 0 ≡ t → refusal ≡ (by t).number
      by-test true a = eqb-true refusal 0 a
      by-test false a = refl

  -- no refusal: there are bytes
  pub some-given : (segment_answer n this earlier number).number ≡ 0 → 0 < length (segment_answer n this earlier number).value
  unfolding segment_answer
  some-given e = by-test (eqb refusal 0) refl e
    where
      by-test : (t : Bool) → eqb refusal 0 ≡ t → (by t).number ≡ 0 → 0 < length (by t).value
      by-test true a z =
          let none = eqb-true refusal 0 a in
          bytes-some n chosen row (row-there n this earlier row none) (chosen-inside n this earlier row none)
      by-test false a z = absurd (eqb-false refusal 0 a z)

  -- a refusal: there are none
  pub none-given : ((segment_answer n this earlier number).number ≡ 0 → ⊥) → (segment_answer n this earlier number).value ≡ []
  unfolding segment_answer
  none-given e = by-test (eqb refusal 0) e
    where
      by-test : (t : Bool) → ((by t).number ≡ 0 → ⊥) → (by t).value ≡ []
      by-test true k = absurd (k refl)
      by-test false k = refl

  -- no segment has more words than the longest
  pub at_most : length (segment_answer n this earlier number).value ≤ 2 * most_words
  unfolding segment_answer
  at_most = by-test (eqb refusal 0) refl
    where
      by-test : (t : Bool) → eqb refusal 0 ≡ t → length (by t).value ≤ 2 * most_words
      by-test true a = bytes-few n chosen row (row-there n this earlier row (eqb-true refusal 0 a))
      by-test false a = omega arith
