-- What the calls leave in the buffers and in the record, by the refusal; and that the part which `write_samples` lends, from the
-- end of the header on, is the sample stretch. Assumes nothing.
use Prim.Native.Nat.{ℕ, ◌+◌, ◌-◌, ◌*◌, ◌≤◌}
use mathlib.Core.Path.{◌≡◌, ap, sym, ◌∙◌}
use mathlib.Core.Bool.{false, ◌||◌}
use mathlib.Core.List.{List, ◌++◌}
use mathlib.Core.Logic.{⊎_elim}
use native.Mathlib.Omega.{arith}
use lib.Dec.{ltb}
use lib.IntN.{ℤ}
use lib.ListN.{length, take, drop}
use borrow.Rule.Slice.PartMut.{put_mid, Post-is}
use Rattle.lists.specs.Fill.{over}
use Rattle.lists.proofs.Fill.{length_over}
use Rattle.header.specs.Edition.{header_bytes}
use Rattle.channels.specs.Sample.{sample_of, channel_room, interleaved, multiplexed}
use Rattle.answers.proofs.Refusals.{cond-none, cond-some}
use Rattle.record.specs.Stretch.{sample_count, stretch_of, with_stretch}
use Rattle.samples.specs.InOut.{channel_after, record_after}
use Rattle.samples.proofs.Stretch.{none_or_some, count-out, all_in}
use Rattle.samples.proofs.Judged.{Room}

-- what a refusal leaves
module _ (refusal n : ℕ) (b : List ℕ) (some : refusal ≡ 0 → ⊥) where
  pub buffer-kept : (channel : ℕ) (buffer : List ℤ) → buffer ≡ channel_after refusal n b channel buffer
  unfolding channel_after
  buffer-kept channel buffer = sym (cond-some refusal buffer _ some)

  pub record-kept : (one two three four : List ℤ) → b ≡ record_after refusal n b one two three four
  unfolding record_after
  record-kept one two three four = sym (cond-some refusal b _ some)

-- what no refusal leaves
module _ (refusal n : ℕ) (b : List ℕ) (none : refusal ≡ 0) where
  pub buffer-by : (channel : ℕ) (buffer : List ℤ)
      → channel_after refusal n b channel buffer ≡ over buffer (sample_of (stretch_of n b) channel) (sample_count n b)
  unfolding channel_after
  buffer-by channel buffer = cond-none refusal buffer _ none

  pub record-by : (one two three four : List ℤ)
      → record_after refusal n b one two three four ≡ with_stretch n b (interleaved (sample_count n b) one two three four)
  unfolding record_after
  record-by one two three four = cond-none refusal b _ none

-- a buffer that holds the samples keeps its length
pub buffer-length : (refusal n : ℕ) (b : List ℕ) (channel : ℕ) (buffer : List ℤ) → (refusal ≡ 0 → sample_count n b ≤ length buffer)
    → length (channel_after refusal n b channel buffer) ≡ length buffer
buffer-length refusal n b channel buffer h =
    ⊎_elim (λ z. ap length (buffer-by refusal n b z channel buffer) ∙ length_over buffer _ (sample_count n b) (h z))
    (λ s. ap length (sym (buffer-kept refusal n b s channel buffer)))
    (none_or_some refusal)

-- a channel's samples, out of the stretch
pub buffer-filled : (n : ℕ) (b s : List ℕ) → s ≡ stretch_of n b → header_bytes n + 4 * sample_count n b ≤ length b
    → (channel : ℕ) (buffer out : List ℤ) → (ltb channel 1 || ltb 4 channel) ≡ false → sample_count n b ≤ length buffer
    → out ≡ over buffer (sample_of s channel) (channel_room channel (length s) (length buffer))
    → out ≡ channel_after 0 n b channel buffer
unfolding channel_after
buffer-filled n b s e inside channel buffer out c h o =
    o
    ∙ (λ i. over buffer (sample_of (e i) channel) (channel_room channel (length (e i)) (length buffer)))
    ∙ ap (over buffer (sample_of (stretch_of n b) channel)) (count-out n b inside channel buffer c h)

-- the part that `write_samples` lends, of a record whose header has so many bytes and each channel so many samples, and the
-- record with other bytes in it
module _
    (n : ℕ)
    (b : List ℕ)
    (start : ℕ)
    (s : start ≡ header_bytes n)
    (count : ℕ)
    (e : count ≡ sample_count n b) where
  abbrev part : List ℕ
  part = take (start + 4 * count - start) (drop start b)

  part-is : part ≡ stretch_of n b
  unfolding stretch_of
  part-is =
      let k : start + 4 * count - start ≡ 4 * count = omega arith in
      λ i. take ((k ∙ ap (λ (m : ℕ). 4 * m) e) i) (drop (s i) b)

  put_back : start + 4 * count ≤ length b → (bytes : List ℕ)
      → put_mid start (start + 4 * count - start) b bytes ≡ with_stretch n b bytes
  unfolding with_stretch
  put_back inside bytes =
      let rest = Post-is start (start + 4 * count) b (omega arith) ∙ (λ i. drop (s i + 4 * e i) b) in
      λ i. take (s i) b ++ (bytes ++ rest i)

  pub record-filled : (one two three four : List ℤ) → Room n b (length one) (length two) (length three) (length four)
      → (last : List ℕ)
      → last ≡ multiplexed part one two three four
      → put_mid start (start + 4 * count - start) b last ≡ record_after 0 n b one two three four
  unfolding record_after
  record-filled one two three four r last h =
      put_back (omega (arith, e, s, r.inside)) last
      ∙ ap (with_stretch n b)
      (h
      ∙ ap (λ (x : List ℕ). multiplexed x one two three four) part-is
      ∙ all_in n b r.inside one two three four r.first r.second r.third r.fourth)
