-- What is read of the first bytes of a record depends on them alone, over any table of fields within them; so does whether the
-- record is accepted, beside its length. Assumes nothing.
use Prim.Native.Nat.{ℕ, ◌+◌, ◌-◌, ◌*◌, ◌/◌, ◌%◌, ◌^◌, ◌≤◌, ◌<◌}
use mathlib.Core.Path.{◌≡◌, refl, ap, sym, ◌∙◌}
use mathlib.Core.Bool.{◌&&◌, ◌||◌, not}
use mathlib.Core.List.{List, [], ◌∷◌}
use native.Mathlib.Omega.{arith}
use lib.Dec.{T}
use lib.ListN.{length, get_or, take}
use lib.Seq.{get_or-take}
use Rattle.bits.specs.Bits.{bit_at, get_bits}
use Rattle.bits.specs.Decimal.{digits}
use Rattle.bits.proofs.Bits.{num-ext}
use Rattle.fields.specs.declared.Field.{Field}
use Rattle.fields.specs.Field.{start, bit_width, is_decimal, digit_count, decoded, value_of, digits_good}
use Rattle.fields.specs.Table.{read_all, all_digits_good, value_in, sound}
use Rattle.fields.proofs.Tables.{sound-inside, sound-rest}
use Rattle.header.specs.Edition.{fields_of, sample_rate, header_bytes}
use Rattle.header.proofs.Sound.{fields-sound, sample-rate-read}
use Rattle.sample_rates.specs.Rates.{samples_per_record}
use Rattle.editions.specs.Rates.{sample_rate_of}
use Rattle.record.specs.Record.{record_refusal}
use Rattle.record.specs.Stretch.{record_rate, sample_count}
use Rattle.record.proofs.RoundTrip.{judged, refusal-read}

-- the first k bytes are the same
module _ (k : ℕ) (a b : List ℕ) (same : take k a ≡ take k b) where
  same_byte : (i : ℕ) → i < k → get_or a i 0 ≡ get_or b i 0
  same_byte i h = sym (get_or-take k a i 0 h) ∙ ap (λ (l : List ℕ). get_or l i 0) same ∙ get_or-take k b i 0 h

  same_bit : (i : ℕ) → i < 8 * k → bit_at a i ≡ bit_at b i
  unfolding bit_at
  same_bit i h = ap (λ (x : ℕ). x / 2 ^ (7 - i % 8) % 2) (same_byte (i / 8) (omega arith))

  same_bits : (s w : ℕ) → s + w ≤ 8 * k → get_bits s w a ≡ get_bits s w b
  unfolding get_bits
  same_bits s w h = num-ext (bit_at a) (bit_at b) s w (λ i p q. same_bit i (omega arith))

  pub same-values : (fs : List Field) → T (sound (8 * k) fs) → read_all fs a ≡ read_all fs b
  unfolding value_of
  same-values [] t = refl
  same-values (f ∷ fs) t =
      let e = same_bits (start f) (bit_width f) (sound-inside (8 * k) f fs t) in
      let r = same-values fs (sound-rest (8 * k) f fs t) in
      λ i. decoded f (e i) ∷ r i

  pub same_digits : (fs : List Field) → T (sound (8 * k) fs) → all_digits_good fs a ≡ all_digits_good fs b
  unfolding digits_good
  same_digits [] t = refl
  same_digits (f ∷ fs) t =
      let e = same_bits (start f) (bit_width f) (sound-inside (8 * k) f fs t) in
      let r = same_digits fs (sound-rest (8 * k) f fs t) in
      λ i. (not (is_decimal f) || digits (digit_count f) (e i)) && r i

-- the bytes of the header are the same
module _ (n : ℕ) (a b : List ℕ) (same : take (header_bytes n) a ≡ take (header_bytes n) b) where
  values : read_all (fields_of n) a ≡ read_all (fields_of n) b
  values = same-values (header_bytes n) a b same (fields_of n) (fields-sound n)

  pub same-refusal : length a ≡ length b → record_refusal n a ≡ record_refusal n b
  same-refusal e =
      refusal-read n a
      ∙ (λ i. judged n (same_digits (header_bytes n) a b same (fields_of n) (fields-sound n) i) (values i) (e i))
      ∙ sym (refusal-read n b)

  -- the sample rate, which each edition has in a place of its own
  same-rate : value_of (sample_rate n) a ≡ value_of (sample_rate n) b
  same-rate =
      sym (sample-rate-read n a) ∙ ap (λ (v : List ℕ). value_in (fields_of n) v (sample_rate n)) values ∙ sample-rate-read n b

  pub same_count : sample_count n a ≡ sample_count n b
  unfolding record_rate
  same_count = ap (λ (hz : ℕ). samples_per_record (sample_rate_of n hz)) same-rate
