-- Decimal digits: one digit, one digit more, how many there are, none of them a zero in front, and the number that they stand
-- for.
-- Assumes nothing.
use mathlib.Core.Path.{◌≡◌, refl, sym, ap, ◌∙◌, subst}
use mathlib.Core.Bool.{Bool}
use mathlib.Core.List.{List, [], ◌∷◌, ◌++◌}
use mathlib.Core.Logic.{⊎_elim}
use Prim.Native.Nat.{ℕ, zero, suc, ◌+◌, ◌*◌, ◌-◌, ◌/◌, ◌%◌, ◌^◌, ◌≤◌, ◌<◌}
use native.Mathlib.Nat.{div-lt_iff_lt-mul, pow-suc}
use native.Mathlib.Omega.{arith}
use lib.Dec.{ltb, lit<}
use lib.ListN.{length, get_or, length-append, get_or-append}
use borrow.Author.Tests.{lt-ltb, le-ltb}
use Rattle.lists.proofs.Order.{le-or-lt}
use Rattle.numbers.specs.Number.{digit, decimal_text, digits_in, value_after, numeral_value}

small : (f n : ℕ) → n < 10 → digits_in f (ltb n 10) n ≡ digit n ∷ []
unfolding digits_in
small zero n h = refl
small (suc f) n h = ap (λ (b : Bool). digits_in (suc f) b n) (lt-ltb n 10 h)

large : (f n : ℕ) → 10 ≤ n → digits_in (suc f) (ltb n 10) n ≡ digits_in f (ltb (n / 10) 10) (n / 10) ++ digit n ∷ []
unfolding digits_in
large f n h = ap (λ (b : Bool). digits_in (suc f) b n) (le-ltb n 10 h)

-- as many divisions as the number itself are enough, and more change nothing
enough : (f g n : ℕ) → n ≤ f → n ≤ g → digits_in f (ltb n 10) n ≡ digits_in g (ltb n 10) n
enough zero g n hf hg = small zero n (omega arith) ∙ sym (small g n (omega arith))
enough (suc f) zero n hf hg = small (suc f) n (omega arith) ∙ sym (small zero n (omega arith))
enough (suc f) (suc g) n hf hg =
    ⊎_elim
    (λ h. large f n h ∙ ap (λ (l : List ℕ). l ++ digit n ∷ []) (enough f g (n / 10) (omega arith) (omega arith))
    ∙ sym (large g n h))
    (λ h. small (suc f) n h ∙ sym (small (suc g) n h))
    (le-or-lt 10 n)

pub one-digit : (n : ℕ) → n < 10 → digit n ∷ [] ≡ decimal_text n
unfolding decimal_text
one-digit n h = sym (small n n h)

pub more-digits : (n : ℕ) → 10 ≤ n → decimal_text (n / 10) ++ digit n ∷ [] ≡ decimal_text n
unfolding decimal_text
more-digits zero h = absurd (omega arith)
more-digits (suc m) h =
    ap (λ (l : List ℕ). l ++ digit (suc m) ∷ []) (enough (suc m / 10) m (suc m / 10) (omega arith) (omega arith))
    ∙ sym (large m (suc m) h)

-- what holds of numbers below ten, and of a number if it holds of its tenth, holds of every number
pub by_digits : (P : ℕ → Type 0) → ((n : ℕ) → n < 10 → P n) → ((n : ℕ) → 10 ≤ n → P (n / 10) → P n) → (n : ℕ) → P n
by_digits P one more n = within n n (omega arith)
  where
    within : (k m : ℕ) → m ≤ k → P m
    within zero m h = one m (omega arith)
    within (suc k) m h = ⊎_elim (λ p. more m p (within k (m / 10) (omega arith))) (λ p. one m p) (le-or-lt 10 m)

pub one-length : (n : ℕ) → n < 10 → length (decimal_text n) ≡ 1
one-length n h = sym (ap length (one-digit n h))

pub more-length : (n : ℕ) → 10 ≤ n → length (decimal_text n) ≡ length (decimal_text (n / 10)) + 1
more-length n h = sym (ap length (more-digits n h)) ∙ length-append (decimal_text (n / 10)) (digit n ∷ [])

pub some-digit : (n : ℕ) → 1 ≤ length (decimal_text n)
some-digit n = ⊎_elim (λ h. omega (arith, more-length n h)) (λ h. omega (arith, one-length n h)) (le-or-lt 10 n)

length-suc : (k n : ℕ) → n < 10 ^ suc k → length (decimal_text n) ≤ suc k
length-suc zero n h = omega (arith, one-length n h)
length-suc (suc k) n h =
    ⊎_elim
    (λ g. let tenth = (div-lt_iff_lt-mul (lit< tt)).1 (subst (λ (x : ℕ). n < x) (pow-suc 10 (suc k)) h) in
    omega (arith, more-length n g, length-suc k (n / 10) tenth))
    (λ g. omega (arith, one-length n g))
    (le-or-lt 10 n)

-- a number below 10 ^ k has at most k digits
pub decimal-length : (k n : ℕ) → 0 < k → n < 10 ^ k → length (decimal_text n) ≤ k
decimal-length zero n p h = absurd (omega arith)
decimal-length (suc k) n p h = length-suc k n h

-- the first of two or more digits is no zero
pub no-leading-zero : (n : ℕ) → 10 ≤ n → 48 < get_or (decimal_text n) 0 0
no-leading-zero n h = first (omega arith)
  where
    first : 0 < n → 48 < get_or (decimal_text n) 0 0
    first =
        by_digits (λ (m : ℕ). 0 < m → 48 < get_or (decimal_text m) 0 0)
        (λ m g p. omega (arith, ap (λ (l : List ℕ). get_or l 0 0) (one-digit m g)))
        (λ m g f p. omega (
          arith,
          f (omega arith),
          ap (λ (l : List ℕ). get_or l 0 0) (more-digits m g),
          get_or-append (decimal_text (m / 10)) (digit m ∷ []) 0 0 (omega (arith, some-digit (m / 10))),
        ))
        n

after_last : (before : ℕ) (ds : List ℕ) (d : ℕ) → value_after before (ds ++ d ∷ []) ≡ value_after before ds * 10 + (d - 48)
unfolding value_after
after_last before [] d = refl
after_last before (x ∷ ds) d = after_last (before * 10 + (x - 48)) ds d

pub value-last : (ds : List ℕ) (n : ℕ) → numeral_value (ds ++ digit n ∷ []) ≡ numeral_value ds * 10 + n % 10
unfolding numeral_value
value-last ds n = omega (arith, after_last 0 ds (digit n))

-- the digits of a number stand for it
pub value-decimal : (n : ℕ) → numeral_value (decimal_text n) ≡ n
unfolding numeral_value value_after
value-decimal =
    by_digits (λ (n : ℕ). numeral_value (decimal_text n) ≡ n)
    (λ n h. omega (arith, ap numeral_value (one-digit n h), value-last [] n))
    (λ n h e. omega (arith, e, ap numeral_value (more-digits n h), value-last (decimal_text (n / 10)) n))
