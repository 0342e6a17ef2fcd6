-- Values and codes of a signed number, over the width: the value of a code fits and has that code, and a value that fits is the
-- one of its code. Assumes nothing.
use Prim.Native.Nat.{ℕ, zero, suc, ◌+◌, ◌-◌, ◌*◌, ◌/◌, ◌%◌, ◌^◌, ◌≤◌, ◌<◌}
use mathlib.Core.Path.{◌≡◌, refl, ap, sym, ◌∙◌, subst}
use mathlib.Core.Bool.{Bool, true, false, cond, ◌&&◌, ◌||◌}
use mathlib.Core.Logic.{◌⊎◌, inl, inr, ⊎_elim}
use native.Mathlib.Omega.{arith}
use native.Mathlib.Nat.{mod-eq_of_lt, add-mul-mod_self_left, add-sub_cancel, mul-suc, pow-suc}
use lib.Pow.{pow-add, pow_pos, pow-lt}
use lib.Dec.{T, leb, ltb, leb→le, ltb→lt}
use borrow.Author.Tests.{lt-ltb, le-ltb, le-leb, ltb-true, ltb-false, leb-true, leb-false}
use Rattle.lists.proofs.Truth.{held, left, right, either}
use Rattle.bits.specs.Bits.{widest}
use Rattle.signed.specs.Signed.{signed_value, signed_fits}

-- a value by the number of codes of its width, and of 64 bits
abbrev pub value_by : ℕ → ℕ → ℕ → ℕ
value_by p q code = cond (ltb code (p / 2)) code (code + (q - p))

abbrev fits_by : ℕ → ℕ → ℕ → Bool
fits_by p q v = ltb v (p / 2) || (leb (q - p / 2) v && ltb v q)

-- there are twice so many as half of them, and 64 bits have them a whole number of times
record Codes (p q : ℕ) : Type 0 where
  even : p ≡ 2 * (p / 2)
  more : p ≤ q
  rest : (k : ℕ) × (q - p ≡ p * k)

-- the first half of the codes stand for themselves, the second for negative numbers
pub lower : (p q x : ℕ) → x < p / 2 → value_by p q x ≡ x
lower p q x h = ap (λ (t : Bool). cond t x (x + (q - p))) (lt-ltb x (p / 2) h)

pub upper : (p q x : ℕ) → p / 2 ≤ x → value_by p q x ≡ x + (q - p)
upper p q x h = ap (λ (t : Bool). cond t x (x + (q - p))) (le-ltb x (p / 2) h)

module _ (p q : ℕ) (c : Codes p q) where
  by-half : (x : ℕ) → (x < p / 2) ⊎ (p / 2 ≤ x)
  by-half x = by-test (ltb x (p / 2)) refl
    where
      by-test : (t : Bool) → ltb x (p / 2) ≡ t → (x < p / 2) ⊎ (p / 2 ≤ x)
      by-test true e = inl (ltb-true x (p / 2) e)
      by-test false e = inr (ltb-false x (p / 2) e)

  -- a number less than the codes, and those of 64 bits less them on top: the number is left
  low_bits : (x : ℕ) → x < p → (x + (q - p)) % p ≡ x
  low_bits x h =
      ap (λ (z : ℕ). (x + z) % p) c.rest.1 ∙ add-mul-mod_self_left x p c.rest.0 ∙ mod-eq_of_lt h

  has_code : (x : ℕ) → x < p → value_by p q x % p ≡ x
  has_code x h =
      ⊎_elim (λ l. ap (λ (z : ℕ). z % p) (lower p q x l) ∙ mod-eq_of_lt h) (λ u. ap (λ (z : ℕ). z % p) (upper p q x u) ∙ low_bits x h)
      (by-half x)

  fits : (x : ℕ) → x < p → T (fits_by p q (value_by p q x))
  fits x h =
      let e = c.even in
      let m = c.more in
      ⊎_elim
      (λ l. subst (λ (z : ℕ). T (fits_by p q z)) (sym (lower p q x l))
      (held (fits_by p q x) (ap (λ (t : Bool). t || (leb (q - p / 2) x && ltb x q)) (lt-ltb x (p / 2) l))))
      (λ u. subst (λ (z : ℕ). T (fits_by p q z)) (sym (upper p q x u))
      (held (fits_by p q (x + (q - p))) (λ i. le-ltb (x + (q - p)) (p / 2) (omega (arith, e, m, h, u)) i
      || (le-leb (q - p / 2) (x + (q - p)) (omega (arith, e, m, h, u)) i
      && lt-ltb (x + (q - p)) q (omega (arith, e, m, h, u)) i))))
      (by-half x)

  value-back : (v : ℕ) → T (fits_by p q v) → value_by p q (v % p) ≡ v
  value-back v t =
      let e = c.even in
      let m = c.more in
      ⊎_elim
      (λ l. let h : v < p / 2 = ltb→lt v (p / 2) l in ap (value_by p q) (mod-eq_of_lt (omega (arith, e, h))) ∙ lower p q v h)
      (λ r.
      let low : q - p / 2 ≤ v = leb→le (q - p / 2) v (left (leb (q - p / 2) v) (ltb v q) r) in
      let high : v < q = ltb→lt v q (right (leb (q - p / 2) v) (ltb v q) r) in
      let x : ℕ = v - (q - p) in
      let s : v ≡ x + (q - p) = omega (arith, e, m, low) in
      let code : v % p ≡ x = ap (λ (z : ℕ). z % p) s ∙ low_bits x (omega (arith, e, m, low, high)) in
      ap (value_by p q) code ∙ upper p q x (omega (arith, e, m, low)) ∙ sym s)
      (either (ltb v (p / 2)) (leb (q - p / 2) v && ltb v q) t)

-- ## over the width

-- all but one of a whole number of times
less_one : (p m q : ℕ) → q ≡ p * m → 1 ≤ m → q - p ≡ p * (m - 1)
less_one p zero q e h = absurd (omega arith)
less_one p (suc m) q e h =
    let one : m ≡ suc m - 1 = omega arith in
    ap (λ (z : ℕ). z - p) (e ∙ mul-suc p m) ∙ add-sub_cancel (p * m) p ∙ ap (λ (z : ℕ). p * z) one

whole : (w : ℕ) → 1 ≤ w → 2 ^ w ≡ 2 * (2 ^ w / 2)
whole zero h = absurd (omega arith)
whole (suc w) h = let e : 2 ^ suc w ≡ 2 ^ w * 2 = pow-suc 2 w in omega (arith, e)

-- no more codes than of 64 bits
pub few-codes : (w : ℕ) → w ≤ widest → 2 ^ w < 2 ^ 64
few-codes w few = pow-lt (let s : w < 64 = omega arith in s)

codes : (w : ℕ) → 1 ≤ w → w ≤ widest → Codes (2 ^ w) (2 ^ 64)
codes w some few =
    let e : 2 ^ 64 ≡ 2 ^ w * 2 ^ (64 - w) =
    ap (λ (z : ℕ). 2 ^ z) (let s : 64 ≡ w + (64 - w) = omega arith in s) ∙ pow-add 2 w (64 - w) in
    record {
      even = whole w some;
      more = omega (arith, few-codes w few);
      rest = (2 ^ (64 - w) - 1, less_one (2 ^ w) (2 ^ (64 - w)) (2 ^ 64) e (pow_pos (64 - w)));
    }

module _ (w : ℕ) (some : 1 ≤ w) (few : w ≤ widest) where
  pub value-code : (x : ℕ) → x < 2 ^ w → signed_value w x % 2 ^ w ≡ x
  value-code = has_code (2 ^ w) (2 ^ 64) (codes w some few)

  pub value-fits : (x : ℕ) → x < 2 ^ w → T (signed_fits w (signed_value w x))
  value-fits = fits (2 ^ w) (2 ^ 64) (codes w some few)

  pub code-value : (v : ℕ) → T (signed_fits w v) → signed_value w (v % 2 ^ w) ≡ v
  code-value = value-back (2 ^ w) (2 ^ 64) (codes w some few)

-- a code of the second half is as far below 2^w as its value is below 2^64: the negative number that it stands for
pub as-far-below : (w code : ℕ) → w ≤ widest → 2 ^ w / 2 ≤ code → code < 2 ^ w → 2 ^ 64 - signed_value w code ≡ 2 ^ w - code
as-far-below w code few half less =
    let e : signed_value w code ≡ code + (2 ^ 64 - 2 ^ w) = upper (2 ^ w) (2 ^ 64) code half in
    omega (arith, e, few-codes w few)

-- the code's test of the negative values: it has no sum
pub from-top : (h v : ℕ) → h ≤ 2 ^ 64 → v < 2 ^ 64 → ltb (2 ^ 64 - 1 - v) h ≡ (leb (2 ^ 64 - h) v && ltb v (2 ^ 64))
from-top h v few small = by-test (leb (2 ^ 64 - h) v) refl
  where
    by-test : (t : Bool) → leb (2 ^ 64 - h) v ≡ t → ltb (2 ^ 64 - 1 - v) h ≡ (t && ltb v (2 ^ 64))
    by-test true e =
        let m = leb-true (2 ^ 64 - h) v e in
        lt-ltb (2 ^ 64 - 1 - v) h (omega (arith, m)) ∙ sym (lt-ltb v (2 ^ 64) small)
    by-test false e = let m = leb-false (2 ^ 64 - h) v e in le-ltb (2 ^ 64 - 1 - v) h (omega (arith, m))
