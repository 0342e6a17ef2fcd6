-- What rounding down means, and that a whole number of intervals is not rounded. Assumes nothing.
use Prim.Native.Nat.{ℕ, zero, suc, ◌+◌, ◌*◌, ◌-◌, ◌/◌, ◌%◌, ◌<◌}
use mathlib.Core.Path.{◌≡◌, sym, ap, ◌∙◌}
use mathlib.Core.Bool.{Bool, cond}
use native.Mathlib.Nat.{div-add-mod', mod-lt, zero-div, zero-mul, zero-add, add-mul-div_right, div-eq_of_lt, div-mul_cancel, mul-div_assoc, mul_assoc, dvd_of_mod-eq-zero}
use native.Mathlib.Omega.{arith}
use lib.IntN.{ℤ, pos, negsuc, neg_ℤ, ◌+ℤ◌, ◌*ℤ◌}
use borrow.Author.Tests.{lt-ltb}
use Rattle.times.specs.SampleTime.{rounded_down}

-- q is the greatest whole number that is not above z over d: what is left is not below zero and less than d
pub record Floor (z : ℤ) (d : ℕ) (q : ℤ) : Type 0 where
  pub rest : ℕ
  pub small : rest < d
  pub whole : q *ℤ pos d +ℤ pos rest ≡ z

-- -m + r, where r is less
less : (m r n : ℕ) → m ≡ n + suc r → neg_ℤ (pos m) +ℤ pos r ≡ negsuc n
less m r n e =
    let f : m ≡ suc (n + r) = omega (arith, e) in
    ap (λ (x : ℕ). neg_ℤ (pos x) +ℤ pos r) f
    ∙ ap (λ (t : Bool). cond t (negsuc (suc (n + r) - suc r)) (pos (r - suc (n + r)))) (lt-ltb r (suc (n + r)) (omega arith))
    ∙ ap negsuc (omega arith)

pub rounds-down : (z : ℤ) (d : ℕ) → 0 < d → Floor z d (rounded_down z d)
rounds-down (pos n) d h = record { rest = n % d; small = mod-lt n h; whole = ap pos (div-add-mod' n d) }
rounds-down (negsuc n) d h =
    let r = n % d in
    let small : r < d = mod-lt n h in
    record {
      rest = d - 1 - r;
      small = omega arith;
      whole = less (suc (n / d) * d) (d - 1 - r) n (omega (arith, div-add-mod' n d));
    }

-- ## whole intervals

-- -m intervals of d are -m
multiple : (m d : ℕ) → 0 < d → rounded_down (neg_ℤ (pos (m * d))) d ≡ neg_ℤ (pos m)
multiple zero d h = ap (λ (x : ℕ). rounded_down (neg_ℤ (pos x)) d) (zero-mul d) ∙ ap pos (zero-div d)
multiple (suc m) d h =
    let e : suc m * d ≡ suc (d - 1 + m * d) = omega arith in
    ap (λ (x : ℕ). rounded_down (neg_ℤ (pos x)) d) e
    ∙ ap negsuc (add-mul-div_right (d - 1) m h ∙ ap (λ (x : ℕ). x + m) (div-eq_of_lt {n = d - 1} {m = d} (omega arith)) ∙ zero-add m)

-- z times s over d is z times that of s over d, where d divides s
pub not-rounded-by : (s d : ℕ) → 0 < d → s % d ≡ 0 → (z : ℤ) → rounded_down (z *ℤ pos s) d ≡ z *ℤ pos (s / d)
not-rounded-by s d h e (pos a) = ap pos (mul-div_assoc d a (dvd_of_mod-eq-zero d e))
not-rounded-by s d h e (negsuc a) =
    let whole : suc a * s ≡ suc a * (s / d) * d =
    ap (λ (x : ℕ). suc a * x) (sym (div-mul_cancel d (dvd_of_mod-eq-zero d e))) ∙ sym (mul_assoc (suc a) (s / d) d) in
    ap (λ (x : ℕ). rounded_down (neg_ℤ (pos x)) d) whole ∙ multiple (suc a * (s / d)) d h
