-- Signed numbers as differences of two natural numbers. Assumes nothing.
use Prim.Native.Nat.{ℕ, zero, suc, ◌+◌, ◌-◌, ◌<◌, ◌≤◌, max}
use mathlib.Core.Path.{◌≡◌, refl, ap, sym, ◌∙◌}
use mathlib.Core.Bool.{cond}
use mathlib.Core.Logic.{⊎_elim}
use native.Mathlib.Omega.{arith}
use lib.Dec.{ltb}
use lib.IntN.{ℤ, pos, negsuc, neg_ℤ, sub_ℕ, ◌+ℤ◌, ◌-ℤ◌}
use lib.Signed.{lt_z}
use borrow.Author.Tests.{lt-ltb, le-ltb}
use Rattle.lists.proofs.Order.{le-or-lt}
use Rattle.totals.specs.Total.{lesser, greater}
use Rattle.index_model.specs.Cells.{nat_of}

-- a difference by its sign
pub sub-pos : (a b p : ℕ) → a ≡ b + p → sub_ℕ a b ≡ pos p
sub-pos a b p e =
    (λ t. cond (le-ltb a b (omega (arith, e)) t) (negsuc (b - suc a)) (pos (a - b)))
    ∙ ap pos (let z : a - b ≡ p = omega (arith, e) in z)

pub sub-neg : (a b q : ℕ) → b ≡ a + suc q → sub_ℕ a b ≡ negsuc q
sub-neg a b q e =
    (λ t. cond (lt-ltb a b (omega (arith, e)) t) (negsuc (b - suc a)) (pos (a - b)))
    ∙ ap negsuc (let z : b - suc a ≡ q = omega (arith, e) in z)

-- equal differences
pub sub_same : (a b c d : ℕ) → a + d ≡ c + b → sub_ℕ a b ≡ sub_ℕ c d
sub_same a b c d e =
    ⊎_elim (λ p. sub-pos a b (a - b) (omega arith) ∙ sym (sub-pos c d (a - b) (omega (arith, e))))
    (λ p. sub-neg a b (b - suc a) (omega arith) ∙ sym (sub-neg c d (b - suc a) (omega (arith, e))))
    (le-or-lt b a)

pub sub-add : (a b c d : ℕ) → sub_ℕ a b +ℤ sub_ℕ c d ≡ sub_ℕ (a + c) (b + d)
sub-add a b c d =
    ⊎_elim
    (λ p. ⊎_elim
    (λ q. (λ t. sub-pos a b (a - b) (omega arith) t +ℤ sub-pos c d (c - d) (omega arith) t)
    ∙ sym (sub-pos (a + c) (b + d) (a - b + (c - d)) (omega arith)))
    (λ q. (λ t. sub-pos a b (a - b) (omega arith) t +ℤ sub-neg c d (d - suc c) (omega arith) t)
    ∙ sub_same (a - b) (suc (d - suc c)) (a + c) (b + d) (omega arith))
    (le-or-lt d c))
    (λ p. ⊎_elim
    (λ q. (λ t. sub-neg a b (b - suc a) (omega arith) t +ℤ sub-pos c d (c - d) (omega arith) t)
    ∙ sub_same (c - d) (suc (b - suc a)) (a + c) (b + d) (omega arith))
    (λ q. (λ t. sub-neg a b (b - suc a) (omega arith) t +ℤ sub-neg c d (d - suc c) (omega arith) t)
    ∙ sym (sub-neg (a + c) (b + d) (suc (b - suc a + (d - suc c))) (omega arith)))
    (le-or-lt d c))
    (le-or-lt b a)

pub minus-sub : (a b : ℕ) → pos a -ℤ pos b ≡ sub_ℕ a b
minus-sub a zero = sym (sub-pos a 0 (a + 0) (omega arith))
minus-sub a (suc b) = refl

sub-zero : (a : ℕ) → pos a ≡ sub_ℕ a 0
sub-zero a = sym (sub-pos a 0 a (omega arith))

neg-sub : (a b : ℕ) → neg_ℤ (sub_ℕ a b) ≡ sub_ℕ b a
neg-sub a b =
    ⊎_elim (λ p. ap neg_ℤ (sub-pos a b (a - b) (omega arith)) ∙ down (a - b) (omega arith))
    (λ p. ap neg_ℤ (sub-neg a b (b - suc a) (omega arith)) ∙ sym (sub-pos b a (suc (b - suc a)) (omega arith))) (le-or-lt b a)
  where
    down : (d : ℕ) → a ≡ b + d → neg_ℤ (pos d) ≡ sub_ℕ b a
    down zero e = sym (sub-pos b a 0 (omega (arith, e)))
    down (suc d) e = sym (sub-neg b a d (omega (arith, e)))

-- a difference with what was taken off added again, and what is left of a number
pub nat-plus : (a b : ℕ) → nat_of (sub_ℕ a b +ℤ pos b) ≡ a
nat-plus a b =
    ap nat_of ((λ t. sub_ℕ a b +ℤ sub-zero b t) ∙ sub-add a b b 0 ∙ sub-pos (a + b) (b + 0) a (omega arith))

pub nat-minus : (a b : ℕ) → nat_of (pos b -ℤ sub_ℕ b a) ≡ a
nat-minus a b =
    ap nat_of ((λ t. sub-zero b t +ℤ neg-sub b a t) ∙ sub-add b 0 a b ∙ sub-pos (b + a) (0 + b) a (omega arith))

-- ## order

same_test : (a b c d : ℕ) → (a < b → c < d) → (b ≤ a → d ≤ c) → ltb a b ≡ ltb c d
same_test a b c d f g =
    ⊎_elim (λ p. le-ltb a b p ∙ sym (le-ltb c d (g p))) (λ p. lt-ltb a b p ∙ sym (lt-ltb c d (f p))) (le-or-lt b a)

-- of two differences the lesser is that with the lesser first number, where the second numbers are one
less-first : (a b k : ℕ) → lt_z (sub_ℕ a k) (sub_ℕ b k) ≡ ltb a b
less-first a b k =
    ⊎_elim
    (λ p. ⊎_elim
    (λ q. (λ t. lt_z (sub-pos a k (a - k) (omega arith) t) (sub-pos b k (b - k) (omega arith) t))
    ∙ same_test (a - k) (b - k) a b (λ h. omega arith) (λ h. omega arith))
    (λ q. (λ t. lt_z (sub-pos a k (a - k) (omega arith) t) (sub-neg b k (k - suc b) (omega arith) t))
    ∙ sym (le-ltb a b (omega arith)))
    (le-or-lt k b))
    (λ p. ⊎_elim
    (λ q. (λ t. lt_z (sub-neg a k (k - suc a) (omega arith) t) (sub-pos b k (b - k) (omega arith) t))
    ∙ sym (lt-ltb a b (omega arith)))
    (λ q. (λ t. lt_z (sub-neg a k (k - suc a) (omega arith) t) (sub-neg b k (k - suc b) (omega arith) t))
    ∙ same_test (k - suc b) (k - suc a) a b (λ h. omega arith) (λ h. omega arith))
    (le-or-lt k b))
    (le-or-lt k a)

-- and that with the greater second number, where the first numbers are one
less-second : (a b k : ℕ) → lt_z (sub_ℕ k a) (sub_ℕ k b) ≡ ltb b a
less-second a b k =
    (λ t. lt_z (sub_same k a (k + b) (a + b) (omega arith) t) (sub_same k b (k + a) (a + b) (omega arith) t))
    ∙ less-first (k + b) (k + a) (a + b)
    ∙ same_test (k + b) (k + a) b a (λ h. omega arith) (λ h. omega arith)

-- one of two by a test is the greater number's, where the test is of order
kept-max : (value : ℕ → ℤ) (a b : ℕ) → cond (ltb b a) (value a) (value b) ≡ value (max a b)
kept-max value a b =
    ⊎_elim
    (λ p. (λ t. cond (le-ltb b a p t) (value a) (value b)) ∙ ap value (let z : b ≡ max a b = omega arith in z))
    (λ p. (λ t. cond (lt-ltb b a p t) (value a) (value b)) ∙ ap value (let z : a ≡ max a b = omega arith in z))
    (le-or-lt a b)

pub lesser-max : (a b k : ℕ) → lesser (sub_ℕ k a) (sub_ℕ k b) ≡ sub_ℕ k (max a b)
unfolding lesser
lesser-max a b k = (λ t. cond (less-second a b k t) (sub_ℕ k a) (sub_ℕ k b)) ∙ kept-max (λ (x : ℕ). sub_ℕ k x) a b

pub greater-max : (a b k : ℕ) → greater (sub_ℕ a k) (sub_ℕ b k) ≡ sub_ℕ (max a b) k
unfolding greater
greater-max a b k = (λ t. cond (less-first b a k t) (sub_ℕ a k) (sub_ℕ b k)) ∙ kept-max (λ (x : ℕ). sub_ℕ x k) a b
