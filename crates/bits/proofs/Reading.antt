-- The steps of the leaf that reads a field, over any first bit and width. Assumes nothing.
use Prim.Native.Nat.{ℕ, ◌+◌, ◌-◌, ◌*◌, ◌/◌, ◌%◌, ◌^◌, ◌≤◌, ◌<◌}
use mathlib.Core.Path.{◌≡◌, ap, sym, ◌∙◌, subst}
use mathlib.Core.List.{List}
use native.Mathlib.Nat.{lt_of_lt_of_le}
use native.Mathlib.Omega.{arith}
use lib.ListN.{get_or}
use lib.Pow.{pow_mono}
use Rattle.bits.specs.Bits.{bit_at, num, get_bits}
use Rattle.bits.proofs.Bits.{num-add, num-mid, byte-num, bit_at_lt, get_bits-lt}

-- one byte more
pub more : (a k : ℕ) (b : List ℕ) → get_or b (a + k) 0 < 256
    → get_bits (8 * a) (8 * (k + 1)) b ≡ get_bits (8 * a) (8 * k) b * 256 + get_or b (a + k) 0
unfolding get_bits
more a k b h =
    let e : 8 * (k + 1) ≡ 8 * k + 8 = omega arith in
    let p : 8 * a + 8 * k ≡ 8 * (a + k) = omega arith in
    ap (num (bit_at b) (8 * a)) e ∙ num-add (bit_at b) (8 * a) (8 * k) 8
    ∙ ap (λ (z : ℕ). num (bit_at b) (8 * a) (8 * k) * 256 + num (bit_at b) z 8) p
    ∙ ap (λ (z : ℕ). num (bit_at b) (8 * a) (8 * k) * 256 + z) (byte-num b (a + k) h)

-- a stretch of at most w bits
pub within : (w s n : ℕ) (b : List ℕ) → n ≤ w → get_bits s n b < 2 ^ w
within w s n b h = lt_of_lt_of_le (get_bits-lt s n b) (pow_mono h)

pub none : (s : ℕ) (b : List ℕ) → get_bits s 0 b ≡ 0
none s b = omega (arith, get_bits-lt s 0 b)

-- a field in its window
pub cut : (s w n : ℕ) (b : List ℕ) → s % 8 + w ≤ 8 * n
    → get_bits (8 * (s / 8)) (8 * n) b / 2 ^ (n * 8 - (s % 8 + w)) % 2 ^ w ≡ get_bits s w b
unfolding get_bits
cut s w n b h =
    let c : ℕ = n * 8 - (s % 8 + w) in
    let e : 8 * n ≡ s % 8 + w + c = omega arith in
    let p : 8 * (s / 8) + s % 8 ≡ s = omega arith in
    ap (λ (z : ℕ). num (bit_at b) (8 * (s / 8)) z / 2 ^ c % 2 ^ w) e
    ∙ num-mid (bit_at b) (bit_at_lt b) (8 * (s / 8)) (s % 8) w c
    ∙ ap (λ (z : ℕ). num (bit_at b) z w) p

-- what the code computes
pub answer : (s w : ℕ) (b : List ℕ) (x y z : ℕ) → x ≡ get_bits (8 * (s / 8)) (8 * ((s % 8 + w + 7) / 8)) b
    → y ≡ 2 ^ ((s % 8 + w + 7) / 8 * 8 - (s % 8 + w)) → z ≡ 2 ^ w
    → (x / y % z ≡ get_bits s w b) × (x / y % z < 2 ^ w)
answer s w b x y z ex ey ez =
    let n : ℕ = (s % 8 + w + 7) / 8 in
    let e : x / y % z ≡ get_bits s w b =
    ap (λ (t : ℕ). t / y % z) ex
    ∙ ap (λ (t : ℕ). get_bits (8 * (s / 8)) (8 * n) b / t % z) ey
    ∙ ap (λ (t : ℕ). get_bits (8 * (s / 8)) (8 * n) b / 2 ^ (n * 8 - (s % 8 + w)) % t) ez
    ∙ cut s w n b (omega arith) in
    (e, subst (λ (t : ℕ). t < 2 ^ w) (sym e) (get_bits-lt s w b))
