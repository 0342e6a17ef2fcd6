-- The quotient of two floats whose values are whole is the quotient of those numbers, rounded once. Assumes nothing.
use mathlib.Core.Path.{◌≡◌, refl, sym, ap, ◌∙◌}
use mathlib.Core.Bool.{Bool, true, false, cond}
use Prim.Native.Nat.{ℕ, suc, ◌*◌, ◌≤◌, ◌<◌}
use native.Mathlib.Nat.{mul-one, zero-mul, mul_assoc, mul_comm, mul_left_comm, mul-pos}
use native.Mathlib.Omega.{arith}
use lib.IntN.{ℤ, pos, negsuc, nat_abs}
use lib.Dec.{T, eqb, le→leb, lt→ltb}
use borrow.Author.Tests.{ne_eqb}
use lib.Ieee.{Float, nan, inf, fin, binary64, up, down, unlike, round, of_int, div, in_float}
use lib.Ieee.Exact.{HasValue}
use lib.Ieee.Back.{round_whole}
use lib.Ieee.Scale.{round_same}
use lib.Ieee.Fits.{down_pos}
use Rattle.floats.specs.Whole.{exact_limit, quotient_of}

-- a divisor that is worth b, above 0, has digits
digits : (n b u d : ℕ) → n * u * 1 ≡ b * d → 0 < b * d → 0 < n * u
digits n b u d e p = omega arith

not-zero : (n u : ℕ) → 0 < n * u → n ≡ 0 → ⊥
not-zero n u p z = let q : n * u ≡ 0 = rw (z, zero-mul) in omega arith

unlike-false : (s : Bool) → unlike s false ≡ s
unlike-false true = refl
unlike-false false = refl

-- x is the whole number a with the sign s, and y is b, above 0
pub div_value : (x y : Float) (s : Bool) (a b : ℕ) → 0 < b → HasValue x s a 1 → HasValue y false b 1
    → div binary64 x y ≡ round binary64 s a b
unfolding div
div_value nan y s a b p v w = absurd v
div_value (inf t) y s a b p v w = absurd v
div_value (fin t m e) nan s a b p v w = absurd w
div_value (fin t m e) (inf r) s a b p v w = absurd w
div_value (fin t m e) (fin r n d) s a b p v w =
    let nu : 0 < n * up d = digits n b (up d) (down d) w.1 (mul-pos p (down_pos d)) in
    let x : m * up e ≡ a * down e = sym (mul-one (m * up e)) ∙ v.1 in
    let y : n * up d ≡ b * down d = sym (mul-one (n * up d)) ∙ w.1 in
    ap (λ (z : Bool). cond z (cond (eqb m 0) nan (inf (unlike t r)))
    (round binary64 (unlike t r) (m * up e * down d) (n * up d * down e))) (ne_eqb n 0 (not-zero n (up d) nu))
    ∙ ap (λ (z : Bool). round binary64 (unlike z r) (m * up e * down d) (n * up d * down e)) v.0
    ∙ ap (λ (z : Bool). round binary64 (unlike s z) (m * up e * down d) (n * up d * down e)) w.0
    ∙ ap (λ (z : Bool). round binary64 z (m * up e * down d) (n * up d * down e)) (unlike-false s)
    ∙ round_same binary64 s (m * up e * down d) (n * up d * down e) a b (mul-pos nu (down_pos e)) p
    (rw (x, y) (simp (mul_assoc, mul_comm, mul_left_comm)))

-- two whole numbers that are held exactly
pub whole-quotient : (z : ℤ) (b : ℕ) → nat_abs z ≤ exact_limit → 0 < b → b ≤ exact_limit
    → div binary64 (of_int binary64 z) (of_int binary64 (pos b)) ≡ quotient_of z b
unfolding of_int quotient_of
whole-quotient (pos a) b h p k =
    div_value (round binary64 false a 1) (round binary64 false b 1) false a b p (round_whole binary64 false a h)
    (round_whole binary64 false b k)
whole-quotient (negsuc a) b h p k =
    div_value (round binary64 true (suc a) 1) (round binary64 false b 1) true (suc a) b p (round_whole binary64 true (suc a) h)
    (round_whole binary64 false b k)

-- the cast to a float loses nothing
pub cast-exact : (z : ℤ) → nat_abs z ≤ exact_limit → T (in_float binary64 z)
unfolding in_float
cast-exact (pos n) h = le→leb n exact_limit h
cast-exact (negsuc n) h = lt→ltb n exact_limit h
