-- What a refusal of 0 says: the record's stretch lies within it, and each buffer holds its samples. Assumes nothing.
use Prim.Native.Nat.{ℕ, ◌+◌, ◌*◌, ◌/◌, ◌≤◌}
use mathlib.Core.Path.{◌≡◌, refl, ap, sym, ◌∙◌}
use mathlib.Core.Bool.{Bool, true, false, ◌||◌}
use mathlib.Core.List.{List, [], ◌∷◌}
use mathlib.Core.Logic.{⊎_elim}
use native.Mathlib.Omega.{arith}
use lib.Dec.{ltb}
use lib.ListN.{length}
use Rattle.std.specs.List.{list_any}
use borrow.Author.Tests.{ltb-false}
use Rattle.lists.proofs.Truth.{or-false}
use Rattle.header.specs.Edition.{header_bytes}
use Rattle.answers.specs.Refusal.{◌when◌, first, ◌then◌}
use Rattle.answers.proofs.Refusals.{then_some, then-zero, none-applies}
use Rattle.record.specs.Record.{record_refusal}
use Rattle.record.specs.Stretch.{sample_count, stretch_of}
use Rattle.record.proofs.Accepted.{stretch-inside}
use Rattle.samples.specs.InOut.{fewer, samples_refusal}
use Rattle.samples.proofs.Stretch.{none_or_some, set-count}

pub record Room (n : ℕ) (b : List ℕ) (one two three four : ℕ) : Type 0 where
  pub inside : header_bytes n + 4 * sample_count n b ≤ length b
  pub first : sample_count n b ≤ one
  pub second : sample_count n b ≤ two
  pub third : sample_count n b ≤ three
  pub fourth : sample_count n b ≤ four

-- the stretch of an accepted record is whole
pub accepted-inside : (n : ℕ) (b : List ℕ) → record_refusal n b ≡ 0 → header_bytes n + 4 * sample_count n b ≤ length b
accepted-inside n b e = omega (arith, stretch-inside n b e)

module _ (n : ℕ) (b : List ℕ) (one two three four : ℕ) where
  -- for a call that worked out the refusal r
  pub room : {r : ℕ} → r ≡ samples_refusal n b one two three four → r ≡ 0 → Room n b one two three four
  unfolding samples_refusal
  room e z =
      let m = sample_count n b in
      let p = then-zero (record_refusal n b) _ (sym e ∙ z) in
      let f = or-false _ _ (none-applies (12 when fewer m one two three four ∷ []) 0 tt p.1) in
      let g = or-false _ _ f.1 in
      let h = or-false _ _ g.1 in
      record {
        inside = accepted-inside n b p.0;
        first = ltb-false one m f.0;
        second = ltb-false two m g.0;
        third = ltb-false three m h.0;
        fourth = ltb-false four m h.1;
      }

  abbrev lengths : List ℕ
  lengths = one ∷ two ∷ three ∷ four ∷ []

  each-length : (a b c d : Bool) → a || (b || (c || (d || false))) ≡ a || (b || (c || d))
  each-length true b c d = refl
  each-length false true c d = refl
  each-length false false true d = refl
  each-length false false false true = refl
  each-length false false false false = refl

  one-fewer : (m : ℕ) → list_any (λ k. ltb k m) lengths ≡ fewer m one two three four
  one-fewer m = each-length (ltb one m) (ltb two m) (ltb three m) (ltb four m)

  -- judged by a count that is the record's
  pub judged-by-count : {m : ℕ} → m ≡ sample_count n b
      → record_refusal n b then first (12 when list_any (λ k. ltb k m) lengths ∷ []) ≡ samples_refusal n b one two three four
  unfolding samples_refusal
  judged-by-count {m} e =
      (λ i. record_refusal n b then first (12 when one-fewer m i ∷ []))
      ∙ ap (λ (m : ℕ). record_refusal n b then first (12 when fewer m one two three four ∷ [])) e

  -- judged by the samples that the stretch has: it is not whole only where the record is refused
  pub judged_by_stretch : {s : List ℕ} → s ≡ stretch_of n b
      → record_refusal n b then first (12 when list_any (λ k. ltb k (length s / 4)) lengths ∷ [])
      ≡ samples_refusal n b one two three four
  unfolding samples_refusal
  judged_by_stretch e =
      ⊎_elim (λ none. judged-by-count (ap (λ (l : List ℕ). length l / 4) e ∙ set-count n b (accepted-inside n b none)))
      (λ some. then_some (record_refusal n b) _ some ∙ sym (then_some (record_refusal n b) _ some))
      (none_or_some (record_refusal n b))
