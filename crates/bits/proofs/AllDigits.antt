-- All digits of a code judged at once: a digit is above 9 where its bit of 8 is set and that of 4 or of 2 is too. Assumes
-- nothing.
use Prim.Native.Nat.{ℕ, zero, suc, ◌+◌, ◌*◌, ◌/◌, ◌%◌, ◌^◌, ◌≤◌, ◌<◌}
use mathlib.Core.Path.{◌≡◌, refl, ap, ap₂, sym, ◌∙◌, subst}
use mathlib.Core.Bool.{Bool, true, false, ◌&&◌, cond}
use native.Mathlib.Nat.{mod-lt}
use native.Mathlib.Omega.{arith}
use lib.Bits.{bit_and, bit_or, and_block, and_shr, or_shr, and_mod, or_mod, and_mask, and_zero_r}
use lib.Dec.{T, eqb, leb, eqb→eq, lit<}
use borrow.Author.Tests.{eq-eqb, ne_eqb, eqb-true, eqb-false}
use Rattle.lists.specs.Fill.{tab}
use Rattle.lists.specs.Tests.{all}
use Rattle.lists.proofs.Fill.{get_or-tab}
use Rattle.lists.proofs.Truth.{each}
use Rattle.bits.specs.Decimal.{digits, most_digits}

-- an equation computed for each number below n
computed : (f g : ℕ → ℕ) (n k : ℕ) → T (all (tab (λ (j : ℕ). eqb (f j) (g j)) 0 n)) → k < n → f k ≡ g k
computed f g n k t h =
    let right : ℕ → Bool = λ (j : ℕ). eqb (f j) (g j) in
    eqb→eq (f k) (g k) (subst T (get_or-tab right n k true h) (each (tab right 0 n) k t))

-- the lowest bit of each of n digits
unfoldable pub ones : ℕ → ℕ
ones zero = 0
ones (suc n) = ones n * 16 + 1

-- at the place of a digit's lowest bit, its bit is set exactly where that digit of c is above 9
abbrev pub above : ℕ → ℕ
above c = bit_and (c / 8) (bit_or (c / 4) (c / 2))

above_more : (c : ℕ) → above c / 16 ≡ above (c / 16)
above_more c =
    let a : c / 8 / 16 ≡ c / 16 / 8 = omega arith in
    let b : c / 4 / 16 ≡ c / 16 / 4 = omega arith in
    let d : c / 2 / 16 ≡ c / 16 / 2 = omega arith in
    and_shr (c / 8) (bit_or (c / 4) (c / 2)) 4
    ∙ ap (bit_and (c / 8 / 16)) (or_shr (c / 4) (c / 2) 4)
    ∙ (λ i. bit_and (a i) (bit_or (b i) (d i)))

-- one digit: what `above` says of it is computed for each of the sixteen
low : (c : ℕ) → above c % 2 ≡ bit_and (c / 8 % 2) (bit_or (c / 4 % 2) (c / 2 % 2))
low c = and_mod (c / 8) (bit_or (c / 4) (c / 2)) 1 ∙ ap (bit_and (c / 8 % 2)) (or_mod (c / 4) (c / 2) 1)

one-digit : (c : ℕ) → eqb (above c % 2) 0 ≡ leb (c % 16) 9
one-digit c =
    let x : c / 8 % 2 ≡ c % 16 / 8 % 2 = omega arith in
    let y : c / 4 % 2 ≡ c % 16 / 4 % 2 = omega arith in
    let z : c / 2 % 2 ≡ c % 16 / 2 % 2 = omega arith in
    let e : above c % 2 ≡ above (c % 16) % 2 = low c ∙ (λ i. bit_and (x i) (bit_or (y i) (z i))) ∙ sym (low (c % 16)) in
    let one : above (c % 16) % 2 ≡ cond (leb (c % 16) 9) 0 1 =
    computed (λ (d : ℕ). above d % 2) (λ (d : ℕ). cond (leb d 9) 0 1) 16 (c % 16) tt (mod-lt c (lit< tt)) in
    ap (λ (n : ℕ). eqb n 0) (e ∙ one) ∙ back (leb (c % 16) 9)
  where
    back : (b : Bool) → eqb (cond b 0 1) 0 ≡ b
    back true = refl
    back false = refl

both_zero : (a b : ℕ) → eqb (a * 16 + b) 0 ≡ eqb a 0 && eqb b 0
both_zero a b = by_tests (eqb a 0) (eqb b 0) refl refl
  where
    by_tests : (s t : Bool) → eqb a 0 ≡ s → eqb b 0 ≡ t → eqb (a * 16 + b) 0 ≡ s && t
    by_tests true true p q = eq-eqb (a * 16 + b) 0 (omega (arith, eqb-true a 0 p, eqb-true b 0 q))
    by_tests true false p q = ne_eqb (a * 16 + b) 0 (λ e. eqb-false b 0 q (omega (arith, e)))
    by_tests false t p q = ne_eqb (a * 16 + b) 0 (λ e. eqb-false a 0 p (omega (arith, e)))

masked : (n c : ℕ) → bit_and (above c) (ones (suc n)) ≡ bit_and (above (c / 16)) (ones n) * 16 + above c % 2
unfolding ones
masked n c =
    let x : ℕ = above c in
    let e : x ≡ x / 16 * 16 + x % 16 = omega arith in
    let last : x % 16 % 2 ≡ x % 2 = omega arith in
    ap (λ (z : ℕ). bit_and z (ones n * 16 + 1)) e
    ∙ and_block 4 (x / 16) (ones n) (x % 16) 1 (mod-lt x (lit< tt)) (lit< tt)
    ∙ ap₂ (λ (s t : ℕ). bit_and s (ones n) * 16 + t) (above_more c) (and_mask (x % 16) 1 ∙ last)

at_once : (n c : ℕ) → eqb (bit_and (above c) (ones n)) 0 ≡ digits n c
unfolding digits ones
at_once zero c = ap (λ (n : ℕ). eqb n 0) (and_zero_r (above c))
at_once (suc n) c =
    ap (λ (z : ℕ). eqb z 0) (masked n c)
    ∙ both_zero (bit_and (above (c / 16)) (ones n)) (above c % 2)
    ∙ ap₂ (λ (s t : Bool). s && t) (at_once n (c / 16)) (one-digit c)

-- those of the most digits, cut to n digits
ones-of : (n : ℕ) → n ≤ most_digits → ones most_digits % 2 ^ (4 * n) ≡ ones n
unfolding ones
ones-of n h = computed (λ (k : ℕ). ones most_digits % 2 ^ (4 * k)) ones (suc most_digits) n tt (omega arith)

pub all_digits : (n c : ℕ) → n ≤ most_digits → eqb (bit_and (above c) (ones most_digits % 2 ^ (4 * n))) 0 ≡ digits n c
all_digits n c h = ap (λ (m : ℕ). eqb (bit_and (above c) m) 0) (ones-of n h) ∙ at_once n c
