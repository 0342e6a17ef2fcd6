-- The list of segments against the rest of the figure, and what its one computed test gives of each row. Assumes nothing.
use Prim.Native.Nat.{ℕ, zero, suc, ◌+◌, ◌<◌}
use mathlib.Core.Path.{◌≡◌, refl}
use mathlib.Core.List.{List, [], ◌∷◌, map}
use native.Mathlib.Nat.{le_of_suc-le-suc, not-suc-le-zero}
use native.Mathlib.Omega.{arith}
use lib.Dec.{T, leb→le}
use lib.ListN.{length, get_or}
use borrow.Author.Tests.{eqb-true}
use Rattle.lists.specs.Tests.{all}
use Rattle.lists.proofs.Truth.{left, right, each, holds}
use Rattle.monitor.specs.Monitor.{segment_count}
use Rattle.segments.specs.declared.Row.{Row}
use Rattle.segments.specs.Segments.{segments, no_segment, first_word, last_word, segment_at, SoundSegment, word_tests, sound_after}

-- the last words, which the list does not have, come out as the paper has them, so the starts and the counts belong together
last-words : map last_word segments ≡ 50 ∷ 63 ∷ 78 ∷ 93 ∷ 108 ∷ 128 ∷ 148 ∷ []
last-words = refl

-- the one computed test; the words before the first segment are the status and four more
segments-sound : T (sound_after 5 segments)
segments-sound = tt

of_test : (before : ℕ) (s : Row) → T (all (word_tests before s)) → SoundSegment s
of_test before s t =
    let after : first_word s ≡ before + 1 = eqb-true (first_word s) (before + 1) (holds _ (each (word_tests before s) 0 t)) in
    record {
      first = omega arith;
      some = leb→le _ _ (each (word_tests before s) 1 t);
      most = leb→le _ _ (each (word_tests before s) 2 t);
      end = leb→le _ _ (each (word_tests before s) 3 t);
    }

in_rows : (before : ℕ) (ss : List Row) (row : ℕ) → row < length ss → T (sound_after before ss)
    → SoundSegment (get_or ss row no_segment)
in_rows before [] row h t = absurd (not-suc-le-zero h)
in_rows before (s ∷ ss) zero h t = of_test before s (left (all (word_tests before s)) (sound_after (last_word s) ss) t)
in_rows before (s ∷ ss) (suc row) h t = in_rows (last_word s) ss row (le_of_suc-le-suc h)
    (right (all (word_tests before s)) (sound_after (last_word s) ss) t)

pub sound-segment : (row : ℕ) → row < segment_count → SoundSegment (segment_at row)
sound-segment row h = in_rows 5 segments row h segments-sound
