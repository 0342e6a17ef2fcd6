-- The sample stretch of a record that holds it whole: its length, its bytes, how many samples go out of it and come into it, and
-- their totals. Assumes nothing.
use Prim.Native.Nat.{ℕ, zero, suc, ◌+◌, ◌*◌, ◌/◌, ◌≤◌, ◌<◌, min}
use native.Mathlib.Nat.{min-eq_left, le-min}
use mathlib.Core.Path.{◌≡◌, refl, ap, sym, ◌∙◌}
use mathlib.Core.Bool.{false, cond, ◌||◌}
use mathlib.Core.List.{List, ◌++◌, append-nil}
use mathlib.Core.Logic.{◌⊎◌, inl, inr, ⊎_elim}
use native.Mathlib.Omega.{arith}
use lib.Dec.{ltb, lit<}
use lib.IntN.{ℤ}
use lib.ListN.{length, get_or, take, drop, length-drop, drop_of_length-le, take-append-drop, get_or-eq_default}
use lib.Seq.{length-take-le, drop-drop, get_or-take, get_or-drop}
use Rattle.lists.proofs.Order.{le-or-lt}
use Rattle.header.specs.Edition.{header_bytes}
use Rattle.channels.specs.Sample.{channel_room, interleaved, set_room, multiplexed}
use Rattle.totals.specs.Total.{totals_of, set_count}
use Rattle.record.specs.Stretch.{sample_count, stretch_of, with_stretch}
use Rattle.record.proofs.Count.{count_small}

-- there is no refusal, or there is one
pub none_or_some : (r : ℕ) → (r ≡ 0) ⊎ (r ≡ 0 → ⊥)
none_or_some zero = inl refl
none_or_some (suc r) = inr (λ z. omega (arith, z))

module _ (n : ℕ) (b : List ℕ) (inside : header_bytes n + 4 * sample_count n b ≤ length b) where
  pub length-stretch : length (stretch_of n b) ≡ 4 * sample_count n b
  unfolding stretch_of
  length-stretch = length-take-le (4 * sample_count n b) (drop (header_bytes n) b) (omega (arith, length-drop (header_bytes n) b))

  pub set-count : length (stretch_of n b) / 4 ≡ sample_count n b
  set-count = omega (arith, length-stretch)

  stretch-at : (i : ℕ) → i < 4 * sample_count n b → get_or (stretch_of n b) i 0 ≡ get_or b (header_bytes n + i) 0
  unfolding stretch_of
  stretch-at i h = get_or-take (4 * sample_count n b) (drop (header_bytes n) b) i 0 h ∙ get_or-drop (header_bytes n) b i 0

  pub stretch-bytes : ((i : ℕ) → get_or b i 0 < 256) → (i : ℕ) → get_or (stretch_of n b) i 0 < 256
  stretch-bytes bytes i =
      ⊎_elim (λ past. rw (get_or-eq_default (stretch_of n b) 0 {n = i} (omega (arith, length-stretch))) (lit< tt))
      (λ h. rw (stretch-at i h) (bytes (header_bytes n + i)))
      (le-or-lt (4 * sample_count n b) i)

  -- put back, it changes nothing
  pub same-stretch : with_stretch n b (stretch_of n b) ≡ b
  unfolding stretch_of with_stretch
  same-stretch =
      let m = 4 * sample_count n b in
      ap (λ (x : List ℕ). take (header_bytes n) b ++ (take m (drop (header_bytes n) b) ++ x)) (sym (drop-drop m (header_bytes n) b))
      ∙ ap (λ (x : List ℕ). take (header_bytes n) b ++ x) (take-append-drop m (drop (header_bytes n) b))
      ∙ take-append-drop (header_bytes n) b

  -- its totals are over all samples of the record
  pub whole-totals : totals_of (stretch_of n b) (set_count (stretch_of n b)) ≡ totals_of (stretch_of n b) (sample_count n b)
  whole-totals =
      let e : set_count (stretch_of n b) ≡ sample_count n b = omega (arith, length-stretch, count_small n b) in
      ap (totals_of (stretch_of n b)) e

  -- all samples go out to a buffer that holds them, of a channel from 1 to 4
  pub count-out : (channel : ℕ) (buffer : List ℤ) → (ltb channel 1 || ltb 4 channel) ≡ false → sample_count n b ≤ length buffer
      → channel_room channel (length (stretch_of n b)) (length buffer) ≡ sample_count n b
  count-out channel buffer c h = (λ i. cond (c i) 0 (min (set-count i) (length buffer))) ∙ min-eq_left h

  -- and come in from four channels that have them
  pub all_in : (one two three four : List ℤ) → sample_count n b ≤ length one → sample_count n b ≤ length two
      → sample_count n b ≤ length three
      → sample_count n b ≤ length four
      → multiplexed (stretch_of n b) one two three four ≡ interleaved (sample_count n b) one two three four
  all_in one two three four p q r t =
      let m = sample_count n b in
      let e : set_room (stretch_of n b) one two three four ≡ m =
      ap (λ (k : ℕ). min k (min (min (length one) (length two)) (min (length three) (length four)))) set-count
      ∙ min-eq_left (le-min (le-min p q) (le-min r t)) in
      (λ i. interleaved (e i) one two three four ++ drop (4 * e i) (stretch_of n b))
      ∙ ap (λ (l : List ℕ). interleaved m one two three four ++ l)
      (drop_of_length-le (stretch_of n b) {i = 4 * m} (omega (arith, length-stretch)))
      ∙ append-nil (interleaved m one two three four)
