-- The laws of one field, over any field: a value put is read, other fields stay, what is read and put back changes nothing.
-- Assumes nothing.
use Prim.Native.Nat.{ℕ, zero, suc, ◌+◌, ◌*◌, ◌/◌, ◌%◌, ◌^◌, ◌≤◌, ◌<◌}
use mathlib.Core.Path.{◌≡◌, refl, ap, sym, ◌∙◌, subst}
use mathlib.Core.Bool.{Bool, true, false, cond, not, ◌&&◌, ◌||◌}
use mathlib.Core.List.{List}
use mathlib.Core.Logic.{◌⊎◌}
use native.Mathlib.Omega.{arith}
use native.Mathlib.Nat.{pow-suc, mod-eq_of_lt}
use lib.Pow.{pow-add}
use lib.Dec.{T, leb, ltb, eqb, leb→le, ltb→lt, lt→ltb, eqb→eq}
use lib.ListN.{length, get_or}
use Rattle.lists.proofs.Truth.{left, right}
use Rattle.bits.specs.Bits.{bit_at, get_bits, set_bits, widest}
use Rattle.bits.specs.Decimal.{decimal_value, digits, coded}
use Rattle.bits.proofs.Bits.{get_bits-lt, get-low, set-low, get_other, set-get, length-set_bits, bit_kept}
use Rattle.bits.proofs.Decimal.{coded-lt, coded-digits, decimal-coded, coded-decimal, decimal-lt}
use Rattle.signed.specs.Signed.{signed_value, signed_fits}
use Rattle.signed.proofs.Codes as signs
use Rattle.fields.specs.declared.Field.{Field}
use Rattle.fields.specs.Field.{word_of, bit_of, start, bit_width, last_readable_word, is_decimal, is_signed, digit_count, encoded, decoded, value_of, with_value, digits_good, decimal_fits, binary_fits, Readable, readable, whole_digits}

-- the test gives the facts
pub is-readable : (f : Field) → T (readable f) → Readable f
is-readable f t =
    let words : T (leb 1 (word_of f) && leb (word_of f) last_readable_word) = left (leb 1 (word_of f)
    && leb (word_of f) last_readable_word) _ t in
    let rest : T ((leb 1 (bit_of f) && leb (bit_of f) 16) && leb (bit_width f) widest) =
    right (leb 1 (word_of f) && leb (word_of f) last_readable_word) _ t in
    let bits : T (leb 1 (bit_of f) && leb (bit_of f) 16) = left (leb 1 (bit_of f) && leb (bit_of f) 16) _ rest in
    record {
      first = leb→le 1 (word_of f) (left (leb 1 (word_of f)) _ words);
      last = leb→le (word_of f) last_readable_word (right (leb 1 (word_of f)) _ words);
      high = leb→le 1 (bit_of f) (left (leb 1 (bit_of f)) _ bits);
      low = leb→le (bit_of f) 16 (right (leb 1 (bit_of f)) _ bits);
      narrow = leb→le (bit_width f) widest (right (leb 1 (bit_of f) && leb (bit_of f) 16) _ rest);
    }

-- ## codes, over the kind and the width of a field

-- n digits take 4 n bits
sixteen : (n : ℕ) → 16 ^ n ≡ 2 ^ (4 * n)
sixteen zero = refl
sixteen (suc n) =
    pow-suc 16 n ∙ ap (λ (z : ℕ). z * 16) (sixteen n) ∙ sym (pow-add 2 (4 * n) 4) ∙ ap (λ (z : ℕ). 2 ^ z) (omega arith)

digits-width : (w : ℕ) → T (eqb (w % 4) 0) → 16 ^ (w / 4) ≡ 2 ^ w
digits-width w t =
    let e : w % 4 ≡ 0 = eqb→eq (w % 4) 0 t in
    sixteen (w / 4) ∙ ap (λ (z : ℕ). 2 ^ z) (omega arith)

-- a code, a value and what fits, by the kind of the field and its width
abbrev code_in : Bool → ℕ → ℕ → ℕ
code_in k w v = cond k (coded (w / 4) v) v

abbrev value_in : Bool → Bool → ℕ → ℕ → ℕ
value_in k s w x = cond k (decimal_value (w / 4) x) (cond s (signed_value w x) x)

abbrev whole_in : Bool → Bool → ℕ → Bool
whole_in k s w = (not k || eqb (w % 4) 0) && (not s || leb 1 w)

abbrev bits_in : Bool → ℕ → ℕ → Bool
bits_in s w v = cond s (signed_fits w v) (ltb v (2 ^ w))

-- digits are no more bits than the field has
code-whole : (s : Bool) (w v : ℕ) → T (whole_in true s w) → coded (w / 4) v % 2 ^ w ≡ coded (w / 4) v
code-whole s w v whole =
    mod-eq_of_lt
    (subst (λ (z : ℕ). coded (w / 4) v < z) (digits-width w (left (eqb (w % 4) 0) _ whole)) (coded-lt (w / 4) v))

-- the lowest bits of the code of a value that fits stand for the value
code-value : (k s : Bool) (w v : ℕ) → w ≤ widest → T (whole_in k s w) → T (not k || ltb v (10 ^ (w / 4))) → T (k || bits_in s w v)
    → value_in k s w (code_in k w v % 2 ^ w) ≡ v
code-value true s w v few whole d b =
    ap (decimal_value (w / 4)) (code-whole s w v whole) ∙ decimal-coded (w / 4) v (ltb→lt v (10 ^ (w / 4)) d)
code-value false true w v few whole d b = signs.code-value w (leb→le 1 w whole) few v b
code-value false false w v few whole d b = mod-eq_of_lt (ltb→lt v (2 ^ w) b)

-- a code of good digits is the lowest bits of the code of its value, which fits
value-code : (k s : Bool) (w x : ℕ) → w ≤ widest → T (whole_in k s w) → x < 2 ^ w → T (not k || digits (w / 4) x)
    → code_in k w (value_in k s w x) % 2 ^ w ≡ x
value-code true s w x few whole h g =
    code-whole s w (decimal_value (w / 4) x) whole
    ∙ coded-decimal (w / 4) x (subst (λ (z : ℕ). x < z) (sym (digits-width w (left (eqb (w % 4) 0) _ whole))) h) g
value-code false true w x few whole h g = signs.value-code w (leb→le 1 w whole) few x h
value-code false false w x few whole h g = mod-eq_of_lt h

value-fits : (k s : Bool) (w x : ℕ) → w ≤ widest → T (whole_in k s w) → x < 2 ^ w → T (not k || digits (w / 4) x)
    → T (not k || ltb (value_in k s w x) (10 ^ (w / 4)))
    × T (k || bits_in s w (value_in k s w x))
value-fits true s w x few whole h g = (lt→ltb (decimal_value (w / 4) x) (10 ^ (w / 4)) (decimal-lt (w / 4) x g), tt)
value-fits false true w x few whole h g = (tt, signs.value-fits w (leb→le 1 w whole) few x h)
value-fits false false w x few whole h g = (tt, lt→ltb x (2 ^ w) h)

-- ## one field of bytes

pub length-with : (f : Field) (v : ℕ) (b : List ℕ) → length (with_value f v b) ≡ length b
unfolding with_value
length-with f v b = length-set_bits (start f) (bit_width f) (encoded f v) b

-- a value that was put is read
pub value-with : (f : Field) (v : ℕ) (b : List ℕ) → T (readable f) → T (whole_digits f) → start f + bit_width f ≤ 8 * length b
    → T (decimal_fits f v) → T (binary_fits f v) → value_of f (with_value f v b) ≡ v
unfolding value_of with_value
value-with f v b r t inside d n =
    ap (decoded f) (get-low (start f) (bit_width f) (encoded f v) b inside)
    ∙ code-value (is_decimal f) (is_signed f) (bit_width f) v (is-readable f r).narrow t d n

-- another field is as it was
pub value-other : (f g : Field) (v : ℕ) (b : List ℕ) → (start f + bit_width f ≤ start g) ⊎ (start g + bit_width g ≤ start f)
    → value_of f (with_value g v b) ≡ value_of f b
unfolding value_of with_value
value-other f g v b o = ap (decoded f) (get_other (start g) (bit_width g) (encoded g v) (start f) (bit_width f) b o)

-- what is read and put back changes nothing
pub with_value_lem : (f : Field) (b : List ℕ) → T (readable f) → T (whole_digits f) → ((k : ℕ) → get_or b k 0 < 256) → T (digits_good f b)
    → with_value f (value_of f b) b ≡ b
unfolding value_of with_value digits_good
with_value_lem f b r t h g =
    set-low (start f) (bit_width f) (encoded f (value_of f b)) b
    ∙ ap (λ (x : ℕ). set_bits (start f) (bit_width f) x b)
    (value-code (is_decimal f) (is_signed f) (bit_width f) (get_bits (start f) (bit_width f) b) (is-readable f r).narrow t
    (get_bits-lt (start f) (bit_width f) b) g)
    ∙ set-get (start f) (bit_width f) b h

-- what a binary field holds has no more bits than the field
pub value-lt : (f : Field) (b : List ℕ) → is_decimal f ≡ false → is_signed f ≡ false → value_of f b < 2 ^ bit_width f
unfolding value_of
value-lt f b e n =
    let x : ℕ = get_bits (start f) (bit_width f) b in
    subst (λ (z : ℕ). z < 2 ^ bit_width f) (sym (λ i. value_in (e i) (n i) (bit_width f) x)) (get_bits-lt (start f) (bit_width f) b)

-- what is read from good digits fits
pub read_fits : (f : Field) (b : List ℕ) → T (readable f) → T (whole_digits f) → T (digits_good f b)
    → T (decimal_fits f (value_of f b)) × T (binary_fits f (value_of f b))
unfolding value_of digits_good
read_fits f b r t g =
    value-fits (is_decimal f) (is_signed f) (bit_width f) (get_bits (start f) (bit_width f) b) (is-readable f r).narrow t
    (get_bits-lt (start f) (bit_width f) b) g

-- digits that were put are good
code-digits : (k s : Bool) (w v : ℕ) → T (whole_in k s w) → T (not k || digits (w / 4) (code_in k w v % 2 ^ w))
code-digits true s w v whole = subst (λ (x : ℕ). T (digits (w / 4) x)) (sym (code-whole s w v whole)) (coded-digits (w / 4) v)
code-digits false s w v whole = tt

pub digits-with : (f : Field) (v : ℕ) (b : List ℕ) → T (readable f) → T (whole_digits f) → start f + bit_width f ≤ 8 * length b
    → T (decimal_fits f v) → T (binary_fits f v) → T (digits_good f (with_value f v b))
unfolding with_value digits_good
digits-with f v b r t inside d n =
    subst (λ (x : ℕ). T (not (is_decimal f) || digits (digit_count f) x))
    (sym (get-low (start f) (bit_width f) (encoded f v) b inside))
    (code-digits (is_decimal f) (is_signed f) (bit_width f) v t)

pub digits-other : (f g : Field) (v : ℕ) (b : List ℕ) → (start f + bit_width f ≤ start g) ⊎ (start g + bit_width g ≤ start f)
    → digits_good f (with_value g v b) ≡ digits_good f b
unfolding with_value digits_good
digits-other f g v b o =
    ap (λ (x : ℕ). not (is_decimal f) || digits (digit_count f) x)
    (get_other (start g) (bit_width g) (encoded g v) (start f) (bit_width f) b o)

-- a bit outside the field is as it was
pub bit-other : (f : Field) (v : ℕ) (b : List ℕ) (i : ℕ) → (i < start f) ⊎ (start f + bit_width f ≤ i)
    → bit_at (with_value f v b) i ≡ bit_at b i
unfolding with_value
bit-other f v b i o = bit_kept (start f) (bit_width f) (encoded f v) b i o
