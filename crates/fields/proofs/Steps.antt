-- What the code computes of a readable field, by its kind. Assumes nothing.
use Prim.Native.Nat.{ℕ, ◌%◌, ◌^◌, ◌≤◌, min}
use mathlib.Core.Path.{◌≡◌, ap, sym, ◌∙◌}
use mathlib.Core.Bool.{Bool, true, false, cond, not, ◌||◌}
use mathlib.Core.List.{List}
use native.Mathlib.Nat.{min-eq_left, mod-eq_of_lt}
use native.Mathlib.Omega.{arith}
use lib.Dec.{ltb}
use Rattle.bits.specs.Bits.{get_bits, set_bits, widest}
use Rattle.bits.specs.Decimal.{decimal_value, digits, most_digits}
use Rattle.bits.proofs.Bits.{get_bits-lt}
use Rattle.signed.specs.Signed.{signed_value, signed_fits}
use Rattle.fields.specs.declared.Field.{Field}
use Rattle.fields.specs.Field.{start, bit_width, is_decimal, is_signed, digit_count, encoded, bits_fit, value_of, with_value, digits_good, Readable}

-- a readable field is no wider than the widest, and has no more than the most digits
module _ (f : Field) (r : Readable f) where
  width-whole : min (bit_width f) widest ≡ bit_width f
  width-whole = min-eq_left r.narrow

  count-whole : min (digit_count f) most_digits ≡ digit_count f
  count-whole = min-eq_left (let h : digit_count f ≤ 14 = omega (arith, r.narrow) in h)

-- a code, and what stands for it, by the kind of the field
abbrev value_by : Field → ℕ → Bool → Bool → ℕ
value_by f x k s = cond k (decimal_value (digit_count f) x) (cond s (signed_value (bit_width f) x) x)

module _ (f : Field) (r : Readable f) (b : List ℕ) (s x : ℕ) (at : s ≡ start f) (got : x
    ≡ get_bits s (min (bit_width f) widest) b) where
  code : x ≡ get_bits (start f) (bit_width f) b
  code = got ∙ (λ i. get_bits (at i) (width-whole f r i) b)

  pub read-decimal : is_decimal f ≡ true → decimal_value (min (digit_count f) most_digits) x ≡ value_of f b
  unfolding value_of
  read-decimal e =
      let c : ℕ = get_bits (start f) (bit_width f) b in
      (λ i. decimal_value (count-whole f r i) (code i)) ∙ sym (ap (λ (t : Bool). value_by f c t (is_signed f)) e)

  pub read-signed : is_decimal f ≡ false → is_signed f ≡ true
      → signed_value (min (bit_width f) widest) (x % 2 ^ min (bit_width f) widest) ≡ value_of f b
  unfolding value_of
  read-signed e n =
      let c : ℕ = get_bits (start f) (bit_width f) b in
      (λ i. signed_value (width-whole f r i) (code i % 2 ^ width-whole f r i))
      ∙ ap (signed_value (bit_width f)) (mod-eq_of_lt (get_bits-lt (start f) (bit_width f) b))
      ∙ sym (λ i. value_by f c (e i) (n i))

  pub read-binary : is_decimal f ≡ false → is_signed f ≡ false → x ≡ value_of f b
  unfolding value_of
  read-binary e n =
      let c : ℕ = get_bits (start f) (bit_width f) b in
      code ∙ sym (λ i. value_by f c (e i) (n i))

  pub digits_decimal : is_decimal f ≡ true → digits (min (digit_count f) most_digits) x ≡ digits_good f b
  unfolding digits_good
  digits_decimal e =
      (λ i. digits (count-whole f r i) (code i)) ∙ sym
      (ap (λ (t : Bool). not t || digits (digit_count f) (get_bits (start f) (bit_width f) b)) e)

pub digits-binary : (f : Field) (b : List ℕ) → is_decimal f ≡ false → true ≡ digits_good f b
unfolding digits_good
digits-binary f b e = sym (ap (λ (t : Bool). not t || digits (digit_count f) (get_bits (start f) (bit_width f) b)) e)

-- what the bits can hold
module _ (f : Field) (r : Readable f) (v : ℕ) where
  pub fits_signed : is_signed f ≡ true → signed_fits (min (bit_width f) widest) v ≡ bits_fit f v
  fits_signed n =
      (λ i. signed_fits (width-whole f r i) v)
      ∙ sym (ap (λ (t : Bool). cond t (signed_fits (bit_width f) v) (ltb v (2 ^ bit_width f))) n)

-- what is written
pub written : (f : Field) → Readable f → (v s x : ℕ) (b : List ℕ) → s ≡ start f → x ≡ encoded f v
    → set_bits s (min (bit_width f) widest) x b ≡ with_value f v b
unfolding with_value
written f r v s x b at e = λ i. set_bits (at i) (width-whole f r i) (e i) b
