-- Decimal places: how many there are, one place more, and the number that the digits on both sides of the point stand for.
-- Assumes nothing.
use mathlib.Core.Path.{◌≡◌, refl, sym, ap, ◌∙◌}
use mathlib.Core.List.{[], ◌∷◌, ◌++◌, append_assoc, append-nil}
use Prim.Native.Nat.{ℕ, zero, suc, ◌+◌, ◌-◌, ◌/◌, ◌^◌, ◌<◌}
use native.Mathlib.Nat.{div-one, div-div-eq-div-mul, pow-succ'}
use native.Mathlib.Numerals.{add-one}
use native.Mathlib.Omega.{arith}
use lib.ListN.{length, length-append}
use Rattle.numbers.specs.Number.{ascii, digit, decimal_text, places, fixed, numeral_value}
use Rattle.numbers.proofs.Decimal.{value-last, value-decimal}

pub places-length : (k n : ℕ) → length (places k n) ≡ k
unfolding places
places-length zero n = refl
places-length (suc k) n = length-append (places k (n / 10)) (digit n ∷ []) ∙ ap (λ (j : ℕ). j + 1) (places-length k (n / 10))
    ∙ add-one k

-- a tenth less one place
tenth : (k n : ℕ) → n / 10 / 10 ^ k ≡ n / 10 ^ suc k
tenth k n = div-div-eq-div-mul n 10 (10 ^ k) ∙ ap (λ (d : ℕ). n / d) (sym (pow-succ' 10 k))

pub fixed-none : (k n : ℕ) → k ≡ 0 → decimal_text n ++ ascii "." ≡ fixed k n
unfolding fixed places
fixed-none k n e =
    sym (append-nil (decimal_text (n / 1) ++ ascii ".") ∙ ap (λ (m : ℕ). decimal_text m ++ ascii ".") (div-one n))
    ∙ ap (λ (j : ℕ). fixed j n) (sym e)

pub fixed_more : (k n : ℕ) → 0 < k → fixed (k - 1) (n / 10) ++ digit n ∷ [] ≡ fixed k n
unfolding fixed places
fixed_more zero n h = absurd (omega arith)
fixed_more (suc k) n h =
    ap (λ (j : ℕ). fixed j (n / 10) ++ digit n ∷ []) (omega arith)
    ∙ append_assoc (decimal_text (n / 10 / 10 ^ k) ++ ascii ".") (places k (n / 10)) (digit n ∷ [])
    ∙ ap (λ (m : ℕ). decimal_text m ++ ascii "." ++ places (suc k) n) (tenth k n)

-- the digits before the point, the point and the places
pub fixed-parts : (k n : ℕ) → length (fixed k n) ≡ length (decimal_text (n / 10 ^ k)) + 1 + k
unfolding fixed
fixed-parts k n =
    let whole = decimal_text (n / 10 ^ k) in
    omega (arith, length-append whole (ascii "."), length-append (whole ++ ascii ".") (places k n), places-length k n)

-- the digits before the point with those behind it stand for the number of units
pub value-fixed : (k n : ℕ) → numeral_value (decimal_text (n / 10 ^ k) ++ places k n) ≡ n
unfolding places
value-fixed zero n = ap numeral_value (append-nil (decimal_text (n / 1)) ∙ ap decimal_text (div-one n)) ∙ value-decimal n
value-fixed (suc k) n =
    let last = value-last (decimal_text (n / 10 / 10 ^ k) ++ places k (n / 10)) n in
    let join = ap numeral_value (append_assoc (decimal_text (n / 10 / 10 ^ k)) (places k (n / 10)) (digit n ∷ [])) in
    let whole = ap (λ (m : ℕ). numeral_value (decimal_text m ++ places (suc k) n)) (tenth k n) in
    omega (arith, last, join, whole, value-fixed k (n / 10))
