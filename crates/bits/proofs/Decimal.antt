-- The laws of binary coded decimal, over the number of digits: each direction undoes the other. Assumes nothing.
use Prim.Native.Nat.{ℕ, zero, suc, ◌+◌, ◌-◌, ◌*◌, ◌/◌, ◌%◌, ◌^◌, ◌≤◌, ◌<◌}
use mathlib.Core.Path.{◌≡◌, ap, sym, ◌∙◌, subst}
use mathlib.Core.Logic.{⊎_elim}
use native.Mathlib.Nat.{one-mul, mul_comm, mul_assoc, pow-suc, pow-le-pow_right, div-one, div-div-eq-div-mul, div-eq_of_lt, div-lt_iff_lt-mul}
use native.Mathlib.Numerals.{add-one}
use native.Mathlib.Omega.{arith}
use lib.Pow.{shr-shr}
use lib.Dec.{T, eqb, leb, ltb, leb→le, le→leb, lit<, lit≤}
use borrow.Author.Tests.{eq-eqb, ne_eqb, lt-ltb, le-ltb}
use Rattle.bits.specs.Decimal.{decimal_value, digits, coded, most_digits}
use Rattle.lists.proofs.Truth.{left, right, both}
use Rattle.lists.proofs.Order.{le-or-lt}

-- any digits: room for the sums
pub decimal-room : (n v : ℕ) → decimal_value n v + 2 ≤ 2 * 10 ^ n
unfolding decimal_value
decimal-room zero v = lit≤ tt
decimal-room (suc n) v = rw pow-suc (omega (arith, decimal-room n (v / 16)))

pub decimal-lt : (n v : ℕ) → T (digits n v) → decimal_value n v < 10 ^ n
unfolding decimal_value digits
decimal-lt zero v t = lit< tt
decimal-lt (suc n) v t =
    rw pow-suc
    (omega (
      arith,
      decimal-lt n (v / 16) (left (digits n (v / 16)) (leb (v % 16) 9) t),
      leb→le (v % 16) 9 (right (digits n (v / 16)) (leb (v % 16) 9) t),
    ))

pub coded-lt : (n x : ℕ) → coded n x < 16 ^ n
unfolding coded
coded-lt zero x = lit< tt
coded-lt (suc n) x = rw pow-suc (omega (arith, coded-lt n (x / 10)))

low : (n x : ℕ) → coded (suc n) x % 16 ≡ x % 10
unfolding coded
low n x = omega arith

high : (n x : ℕ) → coded (suc n) x / 16 ≡ coded n (x / 10)
unfolding coded
high n x = omega arith

pub coded-digits : (n x : ℕ) → T (digits n (coded n x))
unfolding digits
coded-digits zero x = tt
coded-digits (suc n) x =
    both (digits n (coded (suc n) x / 16)) (leb (coded (suc n) x % 16) 9)
    (subst (λ (z : ℕ). T (digits n z)) (sym (high n x)) (coded-digits n (x / 10)))
    (le→leb (coded (suc n) x % 16) 9 (omega (arith, low n x)))

pub decimal-coded : (n x : ℕ) → x < 10 ^ n → decimal_value n (coded n x) ≡ x
unfolding decimal_value
decimal-coded zero x h = omega arith
decimal-coded (suc n) x h =
    let p : 10 ^ suc n ≡ 10 ^ n * 10 = pow-suc 10 n in
    let e : decimal_value n (coded n (x / 10)) ≡ x / 10 = decimal-coded n (x / 10) (omega (arith, p)) in
    let f : decimal_value n (coded (suc n) x / 16) ≡ decimal_value n (coded n (x / 10)) = ap (decimal_value n) (high n x) in
    omega (arith, e, f, low n x)

pub coded-decimal : (n v : ℕ) → v < 16 ^ n → T (digits n v) → coded n (decimal_value n v) ≡ v
unfolding decimal_value digits coded
coded-decimal zero v h t = omega arith
coded-decimal (suc n) v h t =
    let p : 16 ^ suc n ≡ 16 ^ n * 16 = pow-suc 16 n in
    let d : v % 16 ≤ 9 = leb→le (v % 16) 9 (right (digits n (v / 16)) (leb (v % 16) 9) t) in
    let q : (decimal_value n (v / 16) * 10 + v % 16) / 10 ≡ decimal_value n (v / 16) = omega arith in
    let r : (decimal_value n (v / 16) * 10 + v % 16) % 10 ≡ v % 16 = omega arith in
    let e : coded n (decimal_value n (v / 16)) ≡ v / 16 = coded-decimal n (v / 16) (omega (arith, p))
    (left (digits n (v / 16)) (leb (v % 16) 9) t) in
    let f : coded n ((decimal_value n (v / 16) * 10 + v % 16) / 10) ≡ coded n (decimal_value n (v / 16)) = ap (coded n) q in
    omega (arith, e, f, r)

-- ## whether a number has no more than n decimal digits

pub ten-more : (k : ℕ) → 10 ^ (k + 1) ≡ 10 ^ k * 10
ten-more k = ap (λ (n : ℕ). 10 ^ n) (add-one k) ∙ pow-suc 10 k

pub ten-less : (x k : ℕ) → x / 10 ^ k / 10 ≡ x / 10 ^ (k + 1)
ten-less x k = div-div-eq-div-mul x (10 ^ k) 10 ∙ ap (λ (z : ℕ). x / z) (sym (ten-more k))

-- then nothing is left of it after n divisions by ten
pub none_left : (x n : ℕ) → eqb (x / 10 ^ n) 0 ≡ ltb x (10 ^ n)
none_left x n =
    let some : 0 < 10 ^ n = pow-le-pow_right {n = 10} (lit< tt) {i = 0} {j = n} (omega arith) in
    let below = div-lt_iff_lt-mul {k = 10 ^ n} {x = x} {y = 1} some in
    ⊎_elim
    (λ p. ne_eqb (x / 10 ^ n) 0 (λ z. let q : x < 1 * 10 ^ n = below.0 (omega (arith, z)) in omega (arith, one-mul (10 ^ n)))
    ∙ sym (le-ltb x (10 ^ n) p))
    (λ p. eq-eqb _ _ (div-eq_of_lt p) ∙ sym (lt-ltb x (10 ^ n) p))
    (le-or-lt (10 ^ n) x)

-- ## the loop over the digits of a code, from the most significant on

-- before the first digit
pub digits-none : (n l c : ℕ) → l ≡ n → 0 ≡ decimal_value (n - l) c
unfolding decimal_value
digits-none n l c e = let z : n - l ≡ 0 = omega arith in sym (ap (λ (m : ℕ). decimal_value m c) z)

-- one digit more: l are left, and then one less
pub digits_more : (n l c : ℕ) → 0 < l → l ≤ n
    → decimal_value (n - l) (c / 2 ^ (4 * l)) * 10 + c / 2 ^ (4 * (l - 1)) % 16
    ≡ decimal_value (n - (l - 1)) (c / 2 ^ (4 * (l - 1)))
unfolding decimal_value
digits_more n l c h q =
    let x : ℕ = c / 2 ^ (4 * (l - 1)) in
    let above : x / 16 ≡ c / 2 ^ (4 * l) = shr-shr c (4 * (l - 1)) 4 ∙ ap (λ (k : ℕ). c / 2 ^ k) (omega arith) in
    let next : suc (n - l) ≡ n - (l - 1) = omega arith in
    ap (λ (z : ℕ). decimal_value (n - l) z * 10 + x % 16) (sym above) ∙ ap (λ (m : ℕ). decimal_value m x) next

-- after the last
pub digits-whole : (n l c : ℕ) → l ≡ 0 → decimal_value (n - l) (c / 2 ^ (4 * l)) ≡ decimal_value n c
digits-whole n l c e =
    let m : n - l ≡ n = omega arith in
    ap (λ (k : ℕ). decimal_value k (c / 2 ^ (4 * l))) m ∙ ap (λ (k : ℕ). decimal_value n (c / 2 ^ (4 * k))) e
    ∙ ap (decimal_value n) (div-one c)

-- ## the loop that codes, from the least significant digit on

pub coded_more : (k x : ℕ) → coded k x + x / 10 ^ k % 10 * 16 ^ k ≡ coded (k + 1) x
unfolding coded
coded_more k x = sym (next k x) ∙ ap (λ (n : ℕ). coded n x) (sym (add-one k))
  where
    next : (k x : ℕ) → coded (suc k) x ≡ coded k x + x / 10 ^ k % 10 * 16 ^ k
    next zero x = omega (arith, div-one x)
    next (suc k) x =
        let e : coded (suc k) (x / 10) ≡ coded k (x / 10) + x / 10 / 10 ^ k % 10 * 16 ^ k = next k (x / 10) in
        let p : 10 * 10 ^ k ≡ 10 ^ suc k = mul_comm 10 (10 ^ k) ∙ sym (pow-suc 10 k) in
        let q : x / 10 / 10 ^ k ≡ x / 10 ^ suc k = div-div-eq-div-mul x 10 (10 ^ k) ∙ ap (λ (z : ℕ). x / z) p in
        let r : x / 10 ^ suc k % 10 * 16 ^ suc k ≡ x / 10 ^ suc k % 10 * 16 ^ k * 16 =
        ap (λ (z : ℕ). x / 10 ^ suc k % 10 * z) (pow-suc 16 k) ∙ sym (mul_assoc (x / 10 ^ suc k % 10) (16 ^ k) 16) in
        let d : x / 10 / 10 ^ k % 10 * 16 ^ k ≡ x / 10 ^ suc k % 10 * 16 ^ k = ap (λ (z : ℕ). z % 10 * 16 ^ k) q in
        omega (arith, e, d, r)

-- room for 13 digits before the last
pub decimal-small : (n c : ℕ) → n ≤ 13 → decimal_value n c < 2 * 10 ^ 13
decimal-small n c h = omega (arith, decimal-room n c, pow-le-pow_right {n = 10} (lit< tt) {i = n} {j = 13} h)

-- the place of a digit, and a code of the most digits, in a word
pub place-small : (k : ℕ) → k ≤ most_digits → 16 ^ k ≤ 16 ^ most_digits
place-small k h = pow-le-pow_right {n = 16} (lit< tt) {i = k} {j = most_digits} h

pub sixteen-more : (k : ℕ) → 16 ^ k * 16 ≡ 16 ^ (k + 1)
sixteen-more k = sym (ap (λ (n : ℕ). 16 ^ n) (add-one k) ∙ pow-suc 16 k)

pub coded-small : (n x : ℕ) → n ≤ most_digits → coded n x < 16 ^ most_digits
coded-small n x h = omega (arith, coded-lt n x, place-small n h)
