-- A field that lies in the first m bytes reads the same of these alone. Assumes nothing.
use Prim.Native.Nat.{ℕ, ◌+◌, ◌-◌, ◌*◌, ◌/◌, ◌%◌, ◌^◌, ◌≤◌, ◌<◌}
use mathlib.Core.Path.{◌≡◌, refl, ap}
use mathlib.Core.Bool.{not, ◌&&◌, ◌||◌}
use mathlib.Core.List.{List, [], ◌∷◌}
use native.Mathlib.Omega.{arith}
use lib.Dec.{T}
use lib.ListN.{take}
use lib.Seq.{get_or-take}
use Rattle.bits.specs.Bits.{bit_at, get_bits}
use Rattle.bits.specs.Decimal.{digits}
use Rattle.bits.proofs.Bits.{num-ext}
use Rattle.fields.specs.declared.Field.{Field}
use Rattle.fields.specs.Field.{start, bit_width, is_decimal, digit_count, decoded, value_of, digits_good}
use Rattle.fields.specs.Table.{sound, all_digits_good}
use Rattle.fields.proofs.Tables.{sound-inside, sound-rest}

module _ (m : ℕ) (b : List ℕ) where
  bit-front : (i : ℕ) → i < 8 * m → bit_at (take m b) i ≡ bit_at b i
  unfolding bit_at
  bit-front i h = ap (λ (x : ℕ). x / 2 ^ (7 - i % 8) % 2) (get_or-take m b (i / 8) 0 (omega arith))

  get-front : (s w : ℕ) → s + w ≤ 8 * m → get_bits s w (take m b) ≡ get_bits s w b
  unfolding get_bits
  get-front s w h = num-ext (bit_at (take m b)) (bit_at b) s w (λ i p q. bit-front i (omega arith))

  pub value-front : (f : Field) → start f + bit_width f ≤ 8 * m → value_of f (take m b) ≡ value_of f b
  unfolding value_of
  value-front f h = ap (decoded f) (get-front (start f) (bit_width f) h)

  digits-front : (f : Field) → start f + bit_width f ≤ 8 * m → digits_good f (take m b) ≡ digits_good f b
  unfolding digits_good
  digits-front f h = ap (λ (x : ℕ). not (is_decimal f) || digits (digit_count f) x) (get-front (start f) (bit_width f) h)

  pub all-digits-front : (fs : List Field) → T (sound (8 * m) fs) → all_digits_good fs (take m b) ≡ all_digits_good fs b
  all-digits-front [] t = refl
  all-digits-front (f ∷ fs) t =
      λ i. digits-front f (sound-inside (8 * m) f fs t) i && all-digits-front fs (sound-rest (8 * m) f fs t) i
