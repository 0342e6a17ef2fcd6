-- The lines of a listing: how long they can be, and the case of FORMAT. Assumes nothing.
use mathlib.Core.Path.{◌≡◌, refl}
use mathlib.Core.List.{◌++◌}
use Prim.Native.Nat.{ℕ, ◌+◌, ◌*◌, ◌/◌, ◌^◌, ◌≤◌, ◌<◌, zero-le}
use native.Mathlib.Nat.{div-lt_iff_lt-mul, pow-le-pow_right, lt_of_lt_of_le}
use native.Mathlib.Omega.{arith}
use lib.Dec.{lit<, lit≤}
use lib.IntN.{ℤ, pos, negsuc, nat_abs}
use lib.Signed.{mag}
use lib.ListN.{length, length-append}
use Rattle.lists.proofs.Range.{mag-between}
use Rattle.numbers.specs.Number.{ascii, digits_in, decimal_text, places, fixed, minus, signed_decimal, signed_fixed}
use Rattle.text.specs.declared.Columns.{Columns}
use Rattle.text.specs.Text.{header_line, record_line, refused_line, line_length}
use Rattle.numbers.proofs.Decimal.{decimal-length}
use Rattle.numbers.proofs.Places.{fixed-parts}
use Rattle.numbers.proofs.Signs.{nat_abs-mag, minus-length, signed-length}

-- a number below 10 ^ (d + k) with k places has at most d digits before the point
fixed-length : (d k n : ℕ) → 0 < d → n < 10 ^ d * 10 ^ k → length (fixed k n) ≤ d + 1 + k
fixed-length d k n p h =
    let whole = (div-lt_iff_lt-mul (pow-le-pow_right (lit< tt) zero-le)).1 h in
    omega (arith, fixed-parts k n, decimal-length d (n / 10 ^ k) p whole)

signed-fixed-length : (k : ℕ) (z : ℤ) → length (signed_fixed k z) ≤ 1 + length (fixed k (nat_abs z))
unfolding signed_fixed
signed-fixed-length k z = omega (arith, length-append (minus z) (fixed k (nat_abs z)), minus-length z)

-- columns of at most n and o digits, t characters, and f and r digits before the point
pub record Digits (c : Columns) (n t o f r : ℕ) : Type 0 where
  pub number : c.number < 10 ^ n
  pub first : length (signed_decimal c.first_us) ≤ t
  pub origin : c.origin < 10 ^ o
  pub frequency : c.frequency_uhz < 10 ^ f * 10 ^ 6
  pub rate : nat_abs c.frequency_rate_units < 10 ^ r * 10 ^ 5

pub line-within : (c : Columns) (n t o f r : ℕ) → 0 < n → 0 < o → 0 < f → 0 < r → Digits c n t o f r
    → length (record_line c) ≤ line_length n t o f r
unfolding record_line
line-within c n t o f r pn po pf pr d =
    let hn = decimal-length n c.number pn d.number in
    let ht = d.first in
    let ho = decimal-length o c.origin po d.origin in
    let hf = fixed-length f 6 c.frequency_uhz pf d.frequency in
    let hr = fixed-length r 5 (nat_abs c.frequency_rate_units) pr d.rate in
    let hs = signed-fixed-length 5 c.frequency_rate_units in
    simp length-append (omega arith)

-- of numbers of 64 bits
abbrev pub longest_of_words : ℕ
longest_of_words = line_length 20 20 20 14 14

pub word_line : (c : Columns) → c.number < 2 ^ 64 → mag c.first_us < 2 ^ 63 → c.origin < 2 ^ 64 → c.frequency_uhz < 2 ^ 64
    → mag c.frequency_rate_units < 2 ^ 63 → length (record_line c) ≤ longest_of_words
word_line c hn ht ho hf hr =
    line-within c 20 20 20 14 14 (lit< tt) (lit< tt) (lit< tt) (lit< tt)
    (record {
      number = lt_of_lt_of_le hn (lit≤ tt);
      first =
          signed-length 19 (2 ^ 63) (2 ^ 63) c.first_us (lit< tt) (lit< tt) (lit< tt) (mag-between (2 ^ 63) c.first_us ht);
      origin = lt_of_lt_of_le ho (lit≤ tt);
      frequency = lt_of_lt_of_le hf (lit≤ tt);
      rate = omega (arith, nat_abs-mag c.frequency_rate_units);
    })

pub refused_line-length : (d number : ℕ) → 0 < d → number < 10 ^ d → length (refused_line number) ≤ 9 + d
unfolding refused_line
refused_line-length d number p h = let n = decimal-length d number p h in simp length-append (omega arith)

-- the 51 bytes of the longest line of a record are reached, by the time of sample 0 that the last tag of a day gives at 50,000
longest : length (record_line (record {
  number = 65535;
  first_us = pos 86399998960;
  origin = 1;
  frequency_uhz = 99999999999999;
  frequency_rate_units = negsuc 999989999999;
})) ≡ line_length 5 11 1 8 7
unfolding record_line signed_decimal signed_fixed fixed places decimal_text digits_in
longest = refl

-- what the lister prints of the case of FORMAT: -1.23450 is `negsuc 123449`
the-case : header_line ++ record_line (record {
  number = 1;
  first_us = pos 43199990000;
  origin = 1;
  frequency_uhz = 42000000;
  frequency_rate_units = negsuc 123449;
}) ≡ ascii
    "record,first_us,origin,poca_hz,rate_hz_s\n1,43199990000,1,42.000000,-1.23450\n"
unfolding header_line record_line signed_decimal signed_fixed fixed places decimal_text digits_in
the-case = refl

-- the time of sample 0 on the day before, at 200 samples a second with tag 0
day-before : signed_decimal (negsuc 9999) ≡ ascii "-10000"
unfolding signed_decimal decimal_text digits_in
day-before = refl

zero-rate : signed_fixed 5 (pos 0) ≡ ascii "0.00000"
unfolding signed_fixed fixed places decimal_text digits_in
zero-rate = refl

refused-rate : refused_line 5 ≡ ascii "refused,5\n"
unfolding refused_line decimal_text digits_in
refused-rate = refl
