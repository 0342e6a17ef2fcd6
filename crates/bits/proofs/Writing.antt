-- The steps of the leaf that writes a field, over any first bit and width. Assumes nothing.
use Prim.Native.Nat.{ℕ, ◌+◌, ◌-◌, ◌*◌, ◌/◌, ◌%◌, ◌^◌, ◌≤◌, ◌<◌}
use mathlib.Core.Path.{◌≡◌, refl, ap, sym, ◌∙◌, subst}
use mathlib.Core.List.{List}
use mathlib.Core.Logic.{inl, inr, ⊎_elim}
use native.Mathlib.Nat.{add-mul, div-add-mod', div-one, mod-lt, not-suc-le-zero}
use native.Mathlib.Omega.{arith}
use lib.ListN.{length, get_or, set, length-set}
use lib.Seq.{ext_get_or, get_or-set_same, get_or-set_other}
use lib.Arith.{digits_lt}
use lib.Pow.{pow_pos, pow-add, shr_lt, shr-shr}
use Rattle.bits.specs.Bits.{bit_at, num, put, get_bits, set_bits, widest}
use Rattle.bits.proofs.Bits.{num-add, num-mid, num-high, num-low, byte-num, bit_at_lt, put-lt, num-put, num-put-left, num-put-right, length-set_bits, get_or-bytes_of}
use Rattle.bits.specs.Steps.{Stored, mix}
use Rattle.lists.proofs.Order.{le-or-lt}

pub stored-none : (a n x m : ℕ) (b : List ℕ) → m ≡ n → Stored a n x m b b
stored-none a n x m b e =
    record { same = refl; inside = λ k p q. absurd (not-suc-le-zero {n = 0} (omega arith)); outside = λ i p. refl }

pub stored_more : (a n x m v : ℕ) (b c : List ℕ) → m < n → v ≡ x / 2 ^ (8 * (n - 1 - m)) % 256 → Stored a n x (m + 1) b c
    → Stored a n x m b (set c (a + m) v)
stored_more a n x m v b c h e o =
    record {
      same = length-set c (a + m) v ∙ o.same;
      inside = λ k p q r.
          ⊎_elim
          (λ after. get_or-set_other c (a + m) (a + k) v 0 (λ z. omega (arith, z)) ∙ o.inside k after q r)
          (λ here.
          let i : k ≡ m = omega arith in
          ap (λ (z : ℕ). get_or (set c (a + m) v) (a + z) 0) i
          ∙ get_or-set_same c (a + m) v 0 (omega (arith, o.same)) ∙ e ∙ ap (λ (z : ℕ). x / 2 ^ (8 * (n - 1 - z)) % 256) (sym i))
          (le-or-lt (m + 1) k);
      outside = λ i p.
          get_or-set_other c (a + m) i v 0 (λ z. ⊎_elim (λ l. omega (arith, l, z)) (λ l. omega (arith, l, z)) p)
          ∙ o.outside i (⊎_elim (λ l. inl (omega arith)) (λ l. inr l) p);
    }

-- what is left of a number before its bytes are stored, and after one more
pub rest-whole : (x n k : ℕ) → k ≡ n → x ≡ x / 2 ^ (8 * (n - k))
rest-whole x n k e = let z : 8 * (n - k) ≡ 0 = omega arith in sym (ap (λ (j : ℕ). x / 2 ^ j) z ∙ div-one x)

pub rest-less : (x n k : ℕ) → 0 < k → k ≤ n → x / 2 ^ (8 * (n - k)) / 256 ≡ x / 2 ^ (8 * (n - (k - 1)))
rest-less x n k p q = shr-shr x (8 * (n - k)) 8 ∙ ap (λ (z : ℕ). x / 2 ^ z) (omega arith)

-- ## the window

-- what `mixed` computes of a window x, by p = 2 ^ w and q = 2 ^ t: each step fits, and the whole is the mix
pub record Mixed (x t w v p q : ℕ) : Type 0 where
  pub less : x / q % p * q ≤ x
  pub new : v % p * q < 2 ^ 64
  pub sum : x - x / q % p * q + v % p * q < 2 ^ 64
  pub right : x - x / q % p * q + v % p * q ≡ mix x t w v

mixed-at : (x t w v : ℕ) → x < 2 ^ 64 → t + w ≤ 63 → Mixed x t w v (2 ^ w) (2 ^ t)
unfolding mix
mixed-at x t w v hx h =
    let p : ℕ = 2 ^ w in
    let q : ℕ = 2 ^ t in
    let y : ℕ = x / q in
    let top : ℕ = x / 2 ^ (t + w) in
    let c : ℕ = 64 - (t + w) in
    let e : c + (t + w) ≡ 64 = omega arith in
    let e' : c + w + t ≡ 64 = omega arith in
    let small : top < 2 ^ c = shr_lt {n = x} c (t + w) (subst (λ (z : ℕ). x < 2 ^ z) (sym e) hx) in
    let upper : top * p + v % p < 2 ^ (c + w) =
    subst (λ (z : ℕ). top * p + v % p < z) (sym (pow-add 2 c w)) (digits_lt small (mod-lt v (pow_pos w))) in
    let all : (top * p + v % p) * q + x % q < 2 ^ (c + w + t) =
    subst (λ (z : ℕ). (top * p + v % p) * q + x % q < z) (sym (pow-add 2 (c + w) t)) (digits_lt upper (mod-lt x (pow_pos t))) in
    let fits : (top * p + v % p) * q + x % q < 2 ^ 64 = subst (λ (z : ℕ). (top * p + v % p) * q + x % q < 2 ^ z) e' all in
    let split : (top * p + y % p) * q ≡ y * q =
    ap (λ (z : ℕ). z * q) (ap (λ (z : ℕ). z * p + y % p) (sym (shr-shr x t w)) ∙ div-add-mod' y p) in
    let old : top * p * q + y % p * q ≡ y * q = sym (add-mul (top * p) (y % p) q) ∙ split in
    let new : (top * p + v % p) * q ≡ top * p * q + v % p * q = add-mul (top * p) (v % p) q in
    let whole : y * q + x % q ≡ x = div-add-mod' x q in
    let same : x - y % p * q + v % p * q ≡ (top * p + v % p) * q + x % q = omega (arith, old, new, whole) in
    record {
      less = omega (arith, old, whole);
      new = omega (arith, new, fits);
      sum = subst (λ (z : ℕ). z < 2 ^ 64) (sym same) fits;
      right = same;
    }

pub mixed : (x t w v p q : ℕ) → x < 2 ^ 64 → t + w ≤ 63 → p ≡ 2 ^ w → q ≡ 2 ^ t → Mixed x t w v p q
mixed x t w v p q hx h ep eq =
    subst (λ (z : ℕ). Mixed x t w v z q) (sym ep) (subst (λ (z : ℕ). Mixed x t w v (2 ^ w) z) (sym eq) (mixed-at x t w v hx h))

-- the mixed window is the window of the bits after the put
pub mix-num : (f : ℕ → ℕ) → ((i : ℕ) → f i < 2) → (o d w t v : ℕ)
    → mix (num f o (d + w + t)) t w v ≡ num (put (o + d) w v f) o (d + w + t)
unfolding mix
mix-num f h o d w t v =
    let g : ℕ → ℕ = put (o + d) w v f in
    let x : ℕ = num f o (d + w + t) in
    let e : d + w + t ≡ d + (t + w) = omega arith in
    let p : o + (d + w) ≡ o + d + w = omega arith in
    let top : x / 2 ^ (t + w) ≡ num g o d =
    ap (λ (z : ℕ). num f o z / 2 ^ (t + w)) e ∙ num-high f h o d (t + w) ∙ sym (num-put-left (o + d) w v f o d (omega arith)) in
    let mid : v % 2 ^ w ≡ num g (o + d) w = sym (num-put (o + d) w v f) in
    let lo : x % 2 ^ t ≡ num g (o + (d + w)) t =
    num-low f h o (d + w) t ∙ sym (num-put-right (o + d) w v f (o + (d + w)) t (omega arith)) in
    ap (λ (z : ℕ). (z * 2 ^ w + v % 2 ^ w) * 2 ^ t + x % 2 ^ t) top
    ∙ ap (λ (z : ℕ). (num g o d * 2 ^ w + z) * 2 ^ t + x % 2 ^ t) mid
    ∙ ap (λ (z : ℕ). (num g o d * 2 ^ w + num g (o + d) w) * 2 ^ t + z) lo
    ∙ ap (λ (z : ℕ). z * 2 ^ t + num g (o + (d + w)) t) (sym (num-add g o d w))
    ∙ sym (num-add g o (d + w) t)

-- ## the whole

pub all-stored : (s w v n : ℕ) (b c : List ℕ) → ((k : ℕ) → get_or b k 0 < 256) → s % 8 + w ≤ 8 * n → 8 * n < s % 8 + w + 8
    → Stored (s / 8) n (mix (get_bits (8 * (s / 8)) (8 * n) b) (n * 8 - (s % 8 + w)) w v) 0 b c → c ≡ set_bits s w v b
unfolding get_bits set_bits
all-stored s w v n b c h p p' o =
    let a : ℕ = s / 8 in
    let t : ℕ = n * 8 - (s % 8 + w) in
    let f : ℕ → ℕ = bit_at b in
    let g : ℕ → ℕ = put s w v f in
    let es : 8 * a + s % 8 ≡ s = omega arith in
    let en : 8 * n ≡ s % 8 + w + t = omega arith in
    let x : ℕ = mix (num f (8 * a) (8 * n)) t w v in
    let ex : x ≡ num g (8 * a) (8 * n) =
    ap (λ (z : ℕ). mix (num f (8 * a) z) t w v) en
    ∙ mix-num f (bit_at_lt b) (8 * a) (s % 8) w t v
    ∙ ap (λ (z : ℕ). num (put z w v f) (8 * a) (s % 8 + w + t)) es
    ∙ ap (num g (8 * a)) (sym en) in
    ext_get_or 0 c (set_bits s w v b) (o.same ∙ sym (length-set_bits s w v b))
    (λ i q.
    let q' : i < length b = omega (arith, o.same) in
    ⊎_elim
    (λ ge.
    ⊎_elim
    (λ past. o.outside i (inr past) ∙ sym (byte-num b i (h i)) ∙ sym (num-put-right s w v f (8 * i) 8 (omega arith)))
    (λ lt.
    let k : ℕ = i - a in
    let ei : a + k ≡ i = omega arith in
    let m : ℕ = 8 * (n - 1 - k) in
    let em : 8 * n ≡ 8 * k + 8 + m = omega arith in
    let eo : 8 * a + 8 * k ≡ 8 * i = omega arith in
    ap (λ (z : ℕ). get_or c z 0) (sym ei) ∙ o.inside k (omega arith) (omega arith) (omega arith)
    ∙ ap (λ (z : ℕ). z / 2 ^ m % 256) ex
    ∙ ap (λ (z : ℕ). num g (8 * a) z / 2 ^ m % 2 ^ 8) em
    ∙ num-mid g (put-lt s w v f (bit_at_lt b)) (8 * a) (8 * k) 8 m
    ∙ ap (λ (z : ℕ). num g z 8) eo)
    (le-or-lt (a + n) i))
    (λ lt. o.outside i (inl (omega arith)) ∙ sym (byte-num b i (h i)) ∙ sym (num-put-left s w v f (8 * i) 8 (omega arith)))
    (le-or-lt a i)
    ∙ sym (get_or-bytes_of g (length b) i q'))

-- what the code computes
pub done : (s w v m x : ℕ) (b c : List ℕ) → ((k : ℕ) → get_or b k 0 < 256) → w ≤ widest
    → x ≡ get_bits (8 * (s / 8)) (8 * ((s % 8 + w + 7) / 8)) b
    → m ≡ mix x ((s % 8 + w + 7) / 8 * 8 - (s % 8 + w)) w v
    → Stored (s / 8) ((s % 8 + w + 7) / 8) m 0 b c → c ≡ set_bits s w v b
done s w v m x b c h q ex em o =
    let n : ℕ = (s % 8 + w + 7) / 8 in
    let e : m ≡ mix (get_bits (8 * (s / 8)) (8 * n) b) (n * 8 - (s % 8 + w)) w v =
    em ∙ ap (λ (z : ℕ). mix z (n * 8 - (s % 8 + w)) w v) ex in
    all-stored s w v n b c h (omega arith) (omega arith) (subst (λ (z : ℕ). Stored (s / 8) n z 0 b c) e o)
