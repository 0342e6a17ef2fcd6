-- The two round trips of samples, by the steps that the calls take. Assumes nothing.
use Prim.Native.Nat.{ℕ, zero, suc, ◌+◌, ◌*◌, ◌≤◌, ◌<◌}
use mathlib.Core.Path.{◌≡◌, refl, ap, sym, ◌∙◌}
use mathlib.Core.List.{List, [], ◌∷◌, ◌++◌}
use mathlib.Core.Logic.{⊎_elim}
use native.Mathlib.Omega.{arith}
use lib.IntN.{ℤ, pos}
use lib.ListN.{length, get_or, take, drop}
use lib.Signed.{mag}
use Rattle.lists.specs.Fill.{over}
use Rattle.lists.proofs.Fill.{length-tab}
use Rattle.header.specs.Edition.{header_bytes}
use Rattle.channels.specs.Sample.{sample_of, channel_of, interleaved_byte, interleaved}
use Rattle.channels.proofs.OutThenIn.{buffers-in}
use Rattle.channels.proofs.InThenOut.{buffer-out}
use Rattle.answers.specs.Refusal.{◌when◌, first, ◌then◌}
use Rattle.record.specs.Record.{record_refusal}
use Rattle.record.specs.Stretch.{sample_count, stretch_of, with_stretch}
use Rattle.samples.specs.InOut.{fewer, samples_refusal, channel_after, record_after}
use Rattle.samples.proofs.Judged.{Room, room}
use Rattle.samples.proofs.Stretch.{none_or_some, length-stretch, stretch-bytes, same-stretch}
use Rattle.samples.proofs.Part.{record-kept, buffer-by, record-by, buffer-length}
use Rattle.samples.proofs.NewStretch.{new-first, new-refusal, new-count, new-stretch}

-- what holds of each of four lists holds of channel c of them
each-channel : (P : List ℤ → Type 0) (one two three four : List ℤ) → P one → P two → P three → P four → (c : ℕ) → 1 ≤ c → c ≤ 4
    → P (channel_of one two three four c)
unfolding channel_of
each-channel P one two three four p q r s zero l h = absurd (let z : ⊥ = omega arith in z)
each-channel P one two three four p q r s (suc zero) l h = p
each-channel P one two three four p q r s (suc (suc zero)) l h = q
each-channel P one two three four p q r s (suc (suc (suc zero))) l h = r
each-channel P one two three four p q r s (suc (suc (suc (suc zero)))) l h = s
each-channel P one two three four p q r s (suc (suc (suc (suc (suc c))))) l h = absurd (let z : ⊥ = omega arith in z)

module _ (n : ℕ) (b : List ℕ) (one two three four : List ℤ) where
  abbrev refusal : ℕ
  refusal = samples_refusal n b (length one) (length two) (length three) (length four)

  -- ## out, then in

  abbrev out : ℕ → List ℤ → List ℤ
  out channel buffer = channel_after refusal n b channel buffer

  enough : refusal ≡ 0 → Room n b (length one) (length two) (length three) (length four)
  enough z = room n b (length one) (length two) (length three) (length four) refl z

  -- the way in is judged as the way out was
  pub refusal-again : samples_refusal n b (length (out 1 one)) (length (out 2 two)) (length (out 3 three)) (length (out 4 four))
      ≡ refusal
  refusal-again =
      let p = buffer-length refusal n b 1 one (λ z. (enough z).first) in
      let q = buffer-length refusal n b 2 two (λ z. (enough z).second) in
      let r = buffer-length refusal n b 3 three (λ z. (enough z).third) in
      let s = buffer-length refusal n b 4 four (λ z. (enough z).fourth) in
      λ i. samples_refusal n b (p i) (q i) (r i) (s i)

  module _ (bytes : (i : ℕ) → get_or b i 0 < 256) where
    no-refusal : refusal ≡ 0 → record_after refusal n b (out 1 one) (out 2 two) (out 3 three) (out 4 four) ≡ b
    no-refusal z =
        let inside = (enough z).inside in
        record-by refusal n b z (out 1 one) (out 2 two) (out 3 three) (out 4 four)
        ∙ (λ i. with_stretch n b (interleaved (sample_count n b) (buffer-by refusal n b z 1 one i) (buffer-by refusal n b z 2 two i)
        (buffer-by refusal n b z 3 three i) (buffer-by refusal n b z 4 four i)))
        ∙ ap (with_stretch n b) (buffers-in (stretch_of n b) (sample_count n b) (length-stretch n b inside)
        (stretch-bytes n b inside bytes) one two three four)
        ∙ same-stretch n b inside

    pub back : record_after (samples_refusal n b (length (out 1 one)) (length (out 2 two)) (length (out 3 three))
        (length (out 4 four))) n b (out 1 one) (out 2 two) (out 3 three) (out 4 four) ≡ b
    back =
        ap (λ (r : ℕ). record_after r n b (out 1 one) (out 2 two) (out 3 three) (out 4 four)) refusal-again
        ∙ ⊎_elim no-refusal (λ s. sym (record-kept refusal n b s (out 1 one) (out 2 two) (out 3 three) (out 4 four)))
        (none_or_some refusal)

  -- ## in, then out

  abbrev written : List ℕ
  written = record_after refusal n b one two three four

  abbrev stretch : List ℕ
  stretch = interleaved (sample_count n b) one two three four

  stretch-length : length stretch ≡ 4 * sample_count n b
  unfolding interleaved
  stretch-length = length-tab (interleaved_byte one two three four) 0 (4 * sample_count n b)

  module _ (none : refusal ≡ 0) where
    inside : header_bytes n + 4 * sample_count n b ≤ length b
    inside = (enough none).inside

    is-written : written ≡ with_stretch n b stretch
    is-written = record-by refusal n b none one two three four

    pub written-first : take (header_bytes n) written ≡ take (header_bytes n) b
    written-first = ap (take (header_bytes n)) is-written ∙ new-first n b inside stretch stretch-length

    pub written-refusal : (w x y z : ℕ) → samples_refusal n written w x y z ≡ samples_refusal n b w x y z
    unfolding samples_refusal
    written-refusal w x y z =
        let r = ap (record_refusal n) is-written ∙ new-refusal n b inside stretch stretch-length in
        let m = ap (sample_count n) is-written ∙ new-count n b inside stretch stretch-length in
        λ i. r i then first (12 when fewer (m i) w x y z ∷ [])

    -- each channel has its samples
    in-channel : (c : ℕ) → 1 ≤ c → c ≤ 4 → sample_count n b ≤ length (channel_of one two three four c)
    in-channel c l h =
        let r = enough none in
        each-channel (λ (x : List ℤ). sample_count n b ≤ length x) one two three four r.first r.second r.third
        r.fourth c l h

    pub written-samples : (c : ℕ) → 1 ≤ c → c ≤ 4 → ((k : ℕ) → mag (get_or (channel_of one two three four c) k (pos 0)) < 128)
        → (r : ℕ) (buffer : List ℤ) → r ≡ 0
        → channel_after r n written c buffer
        ≡ take (sample_count n b) (channel_of one two three four c) ++ drop (sample_count n b) buffer
    written-samples c l h f r buffer z =
        let m = ap (sample_count n) is-written ∙ new-count n b inside stretch stretch-length in
        let s = ap (stretch_of n) is-written ∙ new-stretch n b inside stretch stretch-length in
        buffer-by r n written z c buffer
        ∙ (λ i. over buffer (sample_of (s i) c) (m i))
        ∙ buffer-out one two three four (sample_count n b) c l h buffer (in-channel c l h) f
