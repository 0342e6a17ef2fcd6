-- The laws of one field of bits, over any first bit and any width: what is set is got, other bits and fields stay, what is
-- got and set back changes nothing. Assumes nothing.
use Prim.Native.Nat.{ℕ, zero, suc, ◌+◌, ◌-◌, ◌*◌, ◌/◌, ◌%◌, ◌^◌, ◌≤◌, ◌<◌}
use mathlib.Core.Path.{◌≡◌, refl, ap, sym, ◌∙◌}
use mathlib.Core.List.{List, ◌∷◌}
use mathlib.Core.Logic.{◌⊎◌, inl, inr, ⊎_elim}
use native.Mathlib.Nat.{add-zero, add-suc, suc-add, zero-add, add_assoc, mul_assoc, pow-suc, mod-lt, mod-one, mod-eq_of_lt, zero-div, div-one, le_of_suc-le-suc, not-suc-le-zero}
use native.Mathlib.Omega.{arith}
use lib.Dec.{lit<}
use lib.Pow.{mod-pow-add, mod-mod-pow, field, high, low, shr-shr}
use lib.ListN.{length, get_or, get_or-eq_default}
use lib.Seq.{ext_get_or}
use borrow.Author.Tests.{lt-ltb, le-ltb, le-leb, lt-leb}
use Rattle.bits.specs.Bits.{bit_at, num, put, bytes_of, get_bits, set_bits}
use Rattle.lists.proofs.Order.{le-or-lt}

-- ## a number of bits

pub num-lt : (f : ℕ → ℕ) → ((i : ℕ) → f i < 2) → (s w : ℕ) → num f s w < 2 ^ w
unfolding num
num-lt f h s zero = lit< tt
num-lt f h s (suc w) = rw pow-suc (omega (arith, num-lt f h s w, h (s + w)))

pub num-ext : (f g : ℕ → ℕ) (s w : ℕ) → ((i : ℕ) → s ≤ i → i < s + w → f i ≡ g i) → num f s w ≡ num g s w
unfolding num
num-ext f g s zero h = refl
num-ext f g s (suc w) h =
    let a : num f s w ≡ num g s w = num-ext f g s w (λ i p q. h i p (omega arith)) in
    let b : f (s + w) ≡ g (s + w) = h (s + w) (omega arith) (omega arith) in
    omega (arith, a, b)

-- two fields side by side
pub num-add : (f : ℕ → ℕ) (s a b : ℕ) → num f s (a + b) ≡ num f s a * 2 ^ b + num f (s + a) b
unfolding num
num-add f s a zero = ap (num f s) (add-zero a) ∙ omega arith
num-add f s a (suc b) =
    let e : num f s (a + b) ≡ num f s a * 2 ^ b + num f (s + a) b = num-add f s a b in
    let x : f (s + (a + b)) ≡ f (s + a + b) = ap f (sym (add_assoc s a b)) in
    let p : num f s a * 2 ^ suc b ≡ (num f s a * 2 ^ b) * 2 = ap (λ (z : ℕ). num f s a * z) (pow-suc 2 b)
    ∙ sym (mul_assoc (num f s a) (2 ^ b) 2) in
    ap (num f s) (add-suc a b) ∙ omega (arith, e, x, p)

module _ (f : ℕ → ℕ) (h : (i : ℕ) → f i < 2) where
  -- the right part of a stretch
  pub num-low : (s a b : ℕ) → num f s (a + b) % 2 ^ b ≡ num f (s + a) b
  num-low s a b = ap (λ (z : ℕ). z % 2 ^ b) (num-add f s a b) ∙ low (num f s a) b (num-lt f h (s + a) b)

  -- the left part
  pub num-high : (s a b : ℕ) → num f s (a + b) / 2 ^ b ≡ num f s a
  num-high s a b = ap (λ (z : ℕ). z / 2 ^ b) (num-add f s a b) ∙ high (num f s a) b (num-lt f h (s + a) b)

  -- a part in the middle
  pub num-mid : (s a b c : ℕ) → num f s (a + b + c) / 2 ^ c % 2 ^ b ≡ num f (s + a) b
  num-mid s a b c = ap (λ (z : ℕ). z % 2 ^ b) (num-high s (a + b) c) ∙ num-low s a b

  num-one : (s : ℕ) → num f s 1 ≡ f s
  unfolding num
  num-one s = omega (arith, ap f (add-zero s))

  -- one bit of it
  pub num-bit : (s w j : ℕ) → j < w → num f s w / 2 ^ (w - 1 - j) % 2 ≡ f (s + j)
  num-bit s w j q =
      let c : ℕ = w - 1 - j in
      let e : w ≡ j + 1 + c = omega arith in
      ap (λ (z : ℕ). num f s z / 2 ^ c % 2) e ∙ num-mid s j 1 c ∙ num-one (s + j)

-- the bits of a number
pub num_of : (f : ℕ → ℕ) (s w v : ℕ) → ((j : ℕ) → j < w → f (s + j) ≡ v / 2 ^ (w - 1 - j) % 2) → num f s w ≡ v % 2 ^ w
unfolding num
num_of f s zero v h = sym (mod-one v)
num_of f s (suc w) v h =
    let step : (j : ℕ) → j < w → f (s + j) ≡ v / 2 / 2 ^ (w - 1 - j) % 2 = λ j q.
    let e : suc w - 1 - j ≡ 1 + (w - 1 - j) = omega arith in
    h j (omega arith) ∙ ap (λ (z : ℕ). v / 2 ^ z % 2) e ∙ ap (λ (z : ℕ). z % 2) (sym (shr-shr v 1 (w - 1 - j))) in
    let a : num f s w ≡ v / 2 % 2 ^ w = num_of f s w (v / 2) step in
    let e0 : suc w - 1 - w ≡ 0 = omega arith in
    let b : f (s + w) ≡ v % 2 = h w (omega arith) ∙ ap (λ (z : ℕ). v / 2 ^ z % 2) e0 ∙ ap (λ (z : ℕ). z % 2) (div-one v) in
    let m : v % 2 ^ (w + 1) ≡ (v / 2 ^ 1 % 2 ^ w) * 2 ^ 1 + v % 2 ^ 1 = mod-pow-add v w 1 in
    let k : v % 2 ^ suc w ≡ v % 2 ^ (w + 1) = ap (λ (z : ℕ). v % 2 ^ z) (omega arith) in
    omega (arith, a, b, m, k)

-- ## bits and bytes

pub bit_at_lt : (b : List ℕ) (i : ℕ) → bit_at b i < 2
unfolding bit_at
bit_at_lt b i = mod-lt (get_or b (i / 8) 0 / 2 ^ (7 - i % 8)) (lit< tt)

pub length-bytes_of : (f : ℕ → ℕ) (k n : ℕ) → length (bytes_of f k n) ≡ n
unfolding bytes_of
length-bytes_of f k zero = refl
length-bytes_of f k (suc n) = ap suc (length-bytes_of f (suc k) n)

get_or-from : (f : ℕ → ℕ) (k n i : ℕ) → i < n → get_or (bytes_of f k n) i 0 ≡ num f (8 * (k + i)) 8
unfolding bytes_of
get_or-from f k zero i h = absurd (not-suc-le-zero h)
get_or-from f k (suc n) zero h = ap (λ (z : ℕ). num f (8 * z) 8) (sym (add-zero k))
get_or-from f k (suc n) (suc i) h = get_or-from f (suc k) n i (le_of_suc-le-suc h)
    ∙ ap (λ (z : ℕ). num f (8 * z) 8) (suc-add k i ∙ sym (add-suc k i))

pub get_or-bytes_of : (f : ℕ → ℕ) (n i : ℕ) → i < n → get_or (bytes_of f 0 n) i 0 ≡ num f (8 * i) 8
get_or-bytes_of f n i h = get_or-from f 0 n i h ∙ ap (λ (z : ℕ). num f (8 * z) 8) (zero-add i)

pub bit_at-past : (b : List ℕ) (i : ℕ) → 8 * length b ≤ i → bit_at b i ≡ 0
unfolding bit_at
bit_at-past b i h = ap (λ (z : ℕ). z / 2 ^ (7 - i % 8) % 2) (get_or-eq_default b 0 (omega arith))
    ∙ ap (λ (z : ℕ). z % 2) (zero-div (2 ^ (7 - i % 8)))

-- the bits of the bytes of f are f
pub bit_at-bytes_of : (f : ℕ → ℕ) → ((i : ℕ) → f i < 2) → (n i : ℕ) → i < 8 * n → bit_at (bytes_of f 0 n) i ≡ f i
unfolding bit_at
bit_at-bytes_of f h n i q =
    let e : 7 - i % 8 ≡ 8 - 1 - i % 8 = omega arith in
    let k : 8 * (i / 8) + i % 8 ≡ i = omega arith in
    ap (λ (z : ℕ). z / 2 ^ (7 - i % 8) % 2) (get_or-bytes_of f n (i / 8) (omega arith))
    ∙ num-bit f h (8 * (i / 8)) 8 (i % 8) (omega arith)
    ∙ ap f k

-- a byte is the number of its bits
pub byte-num : (b : List ℕ) (k : ℕ) → get_or b k 0 < 256 → num (bit_at b) (8 * k) 8 ≡ get_or b k 0
unfolding bit_at
byte-num b k h =
    num_of (bit_at b) (8 * k) 8 (get_or b k 0)
    (λ j q.
    let e : (8 * k + j) / 8 ≡ k = omega arith in
    let r : (8 * k + j) % 8 ≡ j = omega arith in
    ap (λ (z : ℕ). get_or b z 0 / 2 ^ (7 - (8 * k + j) % 8) % 2) e ∙ ap (λ (z : ℕ). get_or b k 0 / 2 ^ (7 - z) % 2) r)
    ∙ mod-eq_of_lt h

pub bytes_of-bit_at : (b : List ℕ) → ((k : ℕ) → get_or b k 0 < 256) → bytes_of (bit_at b) 0 (length b) ≡ b
bytes_of-bit_at b h =
    ext_get_or 0 (bytes_of (bit_at b) 0 (length b)) b (length-bytes_of (bit_at b) 0 (length b))
    (λ i q. let q' : i < length b = omega (arith, length-bytes_of (bit_at b) 0 (length b)) in get_or-bytes_of (bit_at b) (length b) i q'
    ∙ byte-num b i (h i))

-- ## one field put

module _ (s w v : ℕ) (f : ℕ → ℕ) where
  pub put_in : (i : ℕ) → s ≤ i → i < s + w → put s w v f i ≡ v / 2 ^ (s + w - 1 - i) % 2
  unfolding put
  put_in i p q = simp (le-leb s i p, lt-ltb i (s + w) q)

  pub put-left : (i : ℕ) → i < s → put s w v f i ≡ f i
  unfolding put
  put-left i p = simp (lt-leb s i p)

  pub put_right : (i : ℕ) → s + w ≤ i → put s w v f i ≡ f i
  unfolding put
  put_right i p =
      let h : s ≤ i = omega arith in
      simp (le-leb s i h, le-ltb i (s + w) p)

  pub put-lt : ((i : ℕ) → f i < 2) → (i : ℕ) → put s w v f i < 2
  put-lt h i =
      ⊎_elim
      (λ p.
      ⊎_elim (λ q. rw (put_right i q) (h i)) (λ q. rw (put_in i p q) (mod-lt (v / 2 ^ (s + w - 1 - i)) (lit< tt)))
      (le-or-lt (s + w) i))
      (λ p. rw (put-left i p) (h i))
      (le-or-lt s i)

  -- the field is the value
  pub num-put : num (put s w v f) s w ≡ v % 2 ^ w
  num-put =
      num_of (put s w v f) s w v
      (λ j q.
      let e : s + w - 1 - (s + j) ≡ w - 1 - j = omega arith in
      put_in (s + j) (omega arith) (omega arith) ∙ ap (λ (z : ℕ). v / 2 ^ z % 2) e)

  -- every other field is as it was
  pub num-put-left : (t u : ℕ) → t + u ≤ s → num (put s w v f) t u ≡ num f t u
  num-put-left t u h = num-ext (put s w v f) f t u (λ i p q. put-left i (omega arith))

  pub num-put-right : (t u : ℕ) → s + w ≤ t → num (put s w v f) t u ≡ num f t u
  num-put-right t u h = num-ext (put s w v f) f t u (λ i p q. put_right i (omega arith))

-- a field put back
pub put_same : (s w : ℕ) (f : ℕ → ℕ) → ((i : ℕ) → f i < 2) → (i : ℕ) → put s w (num f s w) f i ≡ f i
put_same s w f h i =
    ⊎_elim
    (λ p.
    ⊎_elim (λ q. put_right s w (num f s w) f i q)
    (λ q.
    let j : ℕ = i - s in
    let e : s + w - 1 - i ≡ w - 1 - j = omega arith in
    let k : s + j ≡ i = omega arith in
    put_in s w (num f s w) f i p q ∙ ap (λ (z : ℕ). num f s w / 2 ^ z % 2) e ∙ num-bit f h s w j (omega arith) ∙ ap f k)
    (le-or-lt (s + w) i))
    (λ p. put-left s w (num f s w) f i p)
    (le-or-lt s i)

bytes_of-ext : (f g : ℕ → ℕ) → ((i : ℕ) → f i ≡ g i) → (k n : ℕ) → bytes_of f k n ≡ bytes_of g k n
unfolding bytes_of
bytes_of-ext f g h k zero = refl
bytes_of-ext f g h k (suc n) = λ j. num-ext f g (8 * k) 8 (λ i p q. h i) j ∷ bytes_of-ext f g h (suc k) n j

-- ## one field of bytes

pub get_bits-lt : (s w : ℕ) (b : List ℕ) → get_bits s w b < 2 ^ w
unfolding get_bits
get_bits-lt s w b = num-lt (bit_at b) (bit_at_lt b) s w

pub length-set_bits : (s w v : ℕ) (b : List ℕ) → length (set_bits s w v b) ≡ length b
unfolding set_bits
length-set_bits s w v b = length-bytes_of (put s w v (bit_at b)) 0 (length b)

-- a bit outside the field is as it was
pub bit_kept : (s w v : ℕ) (b : List ℕ) (i : ℕ) → (i < s) ⊎ (s + w ≤ i) → bit_at (set_bits s w v b) i ≡ bit_at b i
unfolding set_bits
bit_kept s w v b i o =
    ⊎_elim
    (λ past.
    bit_at-past (set_bits s w v b) i (omega (arith, length-set_bits s w v b)) ∙ sym (bit_at-past b i past))
    (λ inside.
    bit_at-bytes_of (put s w v (bit_at b)) (put-lt s w v (bit_at b) (bit_at_lt b)) (length b) i inside
    ∙ ⊎_elim (put-left s w v (bit_at b) i) (put_right s w v (bit_at b) i) o)
    (le-or-lt (8 * length b) i)

-- get after put: the lowest bits of the value
pub get-low : (s w v : ℕ) (b : List ℕ) → s + w ≤ 8 * length b → get_bits s w (set_bits s w v b) ≡ v % 2 ^ w
unfolding get_bits set_bits
get-low s w v b h =
    let f : ℕ → ℕ = put s w v (bit_at b) in
    num-ext (bit_at (bytes_of f 0 (length b))) f s w
    (λ i p r. bit_at-bytes_of f (put-lt s w v (bit_at b) (bit_at_lt b)) (length b) i (omega arith))
    ∙ num-put s w v (bit_at b)

pub get_set : (s w v : ℕ) (b : List ℕ) → s + w ≤ 8 * length b → v < 2 ^ w → get_bits s w (set_bits s w v b) ≡ v
get_set s w v b h q = get-low s w v b h ∙ mod-eq_of_lt q

-- put takes no more than the lowest bits
bit-low : (w v k : ℕ) → k < w → v / 2 ^ k % 2 ≡ v % 2 ^ w / 2 ^ k % 2
bit-low w v k h =
    let j : ℕ = w - 1 - k in
    let e : w ≡ suc j + k = omega arith in
    sym (mod-mod-pow (v / 2 ^ k) j 1 ∙ refl)
    ∙ ap (λ (z : ℕ). v / 2 ^ k % 2 ^ z % 2) (let a : j + 1 ≡ suc j = omega arith in a)
    ∙ sym (ap (λ (z : ℕ). z % 2) (field v (suc j) k))
    ∙ ap (λ (z : ℕ). v % 2 ^ z / 2 ^ k % 2) (sym e)

put_low : (s w v : ℕ) (f : ℕ → ℕ) (i : ℕ) → put s w v f i ≡ put s w (v % 2 ^ w) f i
put_low s w v f i =
    ⊎_elim
    (λ p.
    ⊎_elim (λ q. put_right s w v f i q ∙ sym (put_right s w (v % 2 ^ w) f i q))
    (λ q. put_in s w v f i p q ∙ bit-low w v (s + w - 1 - i) (omega arith) ∙ sym (put_in s w (v % 2 ^ w) f i p q))
    (le-or-lt (s + w) i))
    (λ p. put-left s w v f i p ∙ sym (put-left s w (v % 2 ^ w) f i p))
    (le-or-lt s i)

pub set-low : (s w v : ℕ) (b : List ℕ) → set_bits s w v b ≡ set_bits s w (v % 2 ^ w) b
unfolding set_bits
set-low s w v b = bytes_of-ext (put s w v (bit_at b)) (put s w (v % 2 ^ w) (bit_at b)) (put_low s w v (bit_at b)) 0 (length b)

-- get of another field after put
pub get_other : (s w v t u : ℕ) (b : List ℕ) → (t + u ≤ s) ⊎ (s + w ≤ t) → get_bits t u (set_bits s w v b) ≡ get_bits t u b
unfolding get_bits
get_other s w v t u b o =
    num-ext (bit_at (set_bits s w v b)) (bit_at b) t u
    (λ i p q. bit_kept s w v b i (⊎_elim (λ h. inl (omega arith)) (λ h. inr (omega arith)) o))

-- put after get
pub set-get : (s w : ℕ) (b : List ℕ) → ((k : ℕ) → get_or b k 0 < 256) → set_bits s w (get_bits s w b) b ≡ b
unfolding get_bits set_bits
set-get s w b h = bytes_of-ext (put s w (num (bit_at b) s w) (bit_at b)) (bit_at b) (put_same s w (bit_at b) (bit_at_lt b)) 0 (length b)
    ∙ bytes_of-bit_at b h

-- the result is bytes
pub set-byte : (s w v : ℕ) (b : List ℕ) (k : ℕ) → get_or (set_bits s w v b) k 0 < 256
unfolding set_bits
set-byte s w v b k =
    let f : ℕ → ℕ = put s w v (bit_at b) in
    ⊎_elim
    (λ past. rw (get_or-eq_default (bytes_of f 0 (length b)) 0 {n = k} (omega (arith, length-bytes_of f 0 (length b))))
    (lit< tt))
    (λ inside. rw (get_or-bytes_of f (length b) k inside) (num-lt f (put-lt s w v (bit_at b) (bit_at_lt b)) (8 * k) 8))
    (le-or-lt (length b) k)
