-- Signed numbers: their size, their squares, and how the code's bits show them. Assumes nothing.
use mathlib.Core.Path.{◌≡◌, refl, ap, ◌∙◌}
use mathlib.Core.Bool.{Bool, true, false, cond, ◌||◌}
use Prim.Native.Nat.{ℕ, suc, ◌+◌, ◌-◌, ◌*◌, ◌≤◌, ◌<◌}
use native.Mathlib.Nat.{mul-le-mul}
use native.Mathlib.Omega.{arith}
use lib.IntN.{ℤ, pos, negsuc, nat_abs, sub_ℕ, ◌+ℤ◌, ◌*ℤ◌}
use lib.Signed.{mag}
use lib.Dec.{T, ltb, eqb, ltb→lt}
use mir.Syntax.{Width, w8}
use mir.Val.{SFits, to_z, of_z}
use mir.Facts.{to_z-of_z, sfits_lit}
use borrow.Author.Tests.{eqb-true, eqb-false, eq-eqb, ne_eqb}
use Rattle.totals.specs.Total.{is_same, is_clipped}

pub mag≤abs : (z : ℤ) → mag z ≤ nat_abs z
mag≤abs (pos n) = omega arith
mag≤abs (negsuc n) = omega arith

pub abs≤mag : (z : ℤ) → nat_abs z ≤ mag z + 1
abs≤mag (pos n) = omega arith
abs≤mag (negsuc n) = omega arith

-- a signed byte is at most 128 in size, and its square at most 16,384
pub byte-abs : {z : ℤ} → SFits w8 z → nat_abs z ≤ 128
byte-abs {z} h = omega (arith, abs≤mag z)

pub byte-square : {z : ℤ} → SFits w8 z → nat_abs z * nat_abs z ≤ 16384
byte-square h = mul-le-mul (byte-abs h) (byte-abs h)

sub-abs : (a b : ℕ) → nat_abs (sub_ℕ a b) ≤ a + b
sub-abs a b = go (ltb a b) (ltb→lt a b)
  where
    go : (t : Bool) → (T t → a < b) → nat_abs (cond t (negsuc (b - suc a)) (pos (a - b))) ≤ a + b
    go true h = omega (arith, h tt)
    go false h = omega arith

pub abs-sum : (a b : ℤ) → nat_abs (a +ℤ b) ≤ nat_abs a + nat_abs b
abs-sum (pos a) (pos b) = omega arith
abs-sum (pos a) (negsuc b) = sub-abs a (suc b)
abs-sum (negsuc a) (pos b) = omega (arith, sub-abs b (suc a))
abs-sum (negsuc a) (negsuc b) = omega arith

pub square : (z : ℤ) → z *ℤ z ≡ pos (nat_abs z * nat_abs z)
square (pos n) = refl
square (negsuc n) = refl

-- a byte widened, as the code has it
pub widens : (w : Width) {z : ℤ} → SFits w z → SFits w8 z → to_z w (of_z w (to_z w8 (of_z w8 z))) ≡ z
widens w {z} k h = ap (λ (y : ℤ). to_z w (of_z w y)) (to_z-of_z h) ∙ to_z-of_z k

-- bytes have the same bits where they are the same number
same_bits : (a b : ℤ) → SFits w8 a → SFits w8 b → eqb (of_z w8 a) (of_z w8 b) ≡ is_same a b
unfolding is_same
same_bits (pos a) (pos b) f g = refl
same_bits (pos a) (negsuc b) f g = ne_eqb a (256 - suc b) (λ e. omega (arith, f.sfits, g.sfits, e))
same_bits (negsuc a) (pos b) f g = ne_eqb (256 - suc a) b (λ e. omega (arith, f.sfits, g.sfits, e))
same_bits (negsuc a) (negsuc b) f g = by-test (eqb a b) refl
  where
    by-test : (t : Bool) → eqb a b ≡ t → eqb (256 - suc a) (256 - suc b) ≡ t
    by-test true e = eq-eqb (256 - suc a) (256 - suc b) (omega (arith, eqb-true a b e))
    by-test false e =
        ne_eqb (256 - suc a) (256 - suc b) (λ z. eqb-false a b e (omega (arith, f.sfits, g.sfits, z)))

-- the code's test for a clipped sample
pub clipped-bits : {x : ℤ} → SFits w8 x → eqb (of_z w8 x) 128 || eqb (of_z w8 x) 127 ≡ is_clipped x
unfolding is_clipped
clipped-bits {x} f = λ i. same_bits x (negsuc 127) f (sfits_lit tt) i || same_bits x (pos 127) f (sfits_lit tt) i
