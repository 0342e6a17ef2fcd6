-- The laws of a table of fields that passes the one test `sound`: what is written is read, what is read and written back
-- changes nothing, and bits that no field names are kept. Assumes nothing.
use Prim.Native.Nat.{ℕ, zero, suc, ◌+◌, ◌*◌, ◌≤◌, ◌<◌}
use mathlib.Core.Path.{◌≡◌, refl, ap, sym, ◌∙◌, subst}
use mathlib.Core.Bool.{Bool, ◌&&◌, ◌||◌}
use mathlib.Core.List.{List, [], ◌∷◌}
use mathlib.Core.Logic.{◌⊎◌, inl, inr, ⊎_elim}
use native.Mathlib.Omega.{arith}
use native.Mathlib.Nat.{not-suc-le-zero, le_of_suc-le-suc}
use lib.Dec.{T, leb, leb→le, le→leb}
use lib.ListN.{length, get_or}
use Rattle.lists.proofs.Truth.{left, right, both, either}
use Rattle.bits.specs.Bits.{bit_at}
use Rattle.fields.specs.declared.Field.{Field}
use Rattle.fields.specs.Field.{none, start, bit_width, value_of, with_value, digits_good, decimal_fits, binary_fits, readable, whole_digits}
use Rattle.fields.specs.Table.{read_all, write_all, all_digits_good, all_fit, apart, all_apart, sound, unnamed, no_field}
use Rattle.fields.proofs.OneField.{length-with, value-with, value-other, with_value_lem, read_fits, digits-with, digits-other, bit-other}

-- ## the test, taken apart

module _ (n : ℕ) (f : Field) (fs : List Field) (t : T (sound n (f ∷ fs))) where
  within : T (leb (start f + bit_width f) n && (all_apart f fs && sound n fs))
  within = right (readable f && whole_digits f) _ t

  pub sound-readable : T (readable f)
  sound-readable = left (readable f) (whole_digits f) (left (readable f && whole_digits f) _ t)

  pub sound-digits : T (whole_digits f)
  sound-digits = right (readable f) (whole_digits f) (left (readable f && whole_digits f) _ t)

  pub sound-inside : start f + bit_width f ≤ n
  sound-inside = leb→le (start f + bit_width f) n (left (leb (start f + bit_width f) n) _ within)

  pub sound-apart : T (all_apart f fs)
  sound-apart = left (all_apart f fs) _ (right (leb (start f + bit_width f) n) _ within)

  pub sound-rest : T (sound n fs)
  sound-rest = right (all_apart f fs) _ (right (leb (start f + bit_width f) n) _ within)

apart-cases : (f g : Field) → T (apart f g) → (start f + bit_width f ≤ start g) ⊎ (start g + bit_width g ≤ start f)
apart-cases f g t =
    ⊎_elim (λ p. inl (leb→le (start f + bit_width f) (start g) p)) (λ p. inr (leb→le (start g + bit_width g) (start f) p))
    (either (leb (start f + bit_width f) (start g)) (leb (start g + bit_width g) (start f)) t)

-- a longer run of bytes holds the table too
pub sound_more : (m n : ℕ) (fs : List Field) → m ≤ n → T (sound m fs) → T (sound n fs)
sound_more m n [] h t = tt
sound_more m n (f ∷ fs) h t =
    let e : start f + bit_width f ≤ m = sound-inside m f fs t in
    both (readable f && whole_digits f) _ (left (readable f && whole_digits f) _ t)
    (both (leb (start f + bit_width f) n) _ (le→leb (start f + bit_width f) n (omega arith))
    (both (all_apart f fs) (sound n fs) (sound-apart m f fs t) (sound_more m n fs h (sound-rest m f fs t))))

-- ## rows by their place

pub length-read : (fs : List Field) (b : List ℕ) → length (read_all fs b) ≡ length fs
length-read [] b = refl
length-read (f ∷ fs) b = ap suc (length-read fs b)

pub read_at : (fs : List Field) (b : List ℕ) (d : Field) (k : ℕ) → k < length fs
    → get_or (read_all fs b) k 0 ≡ value_of (get_or fs k d) b
read_at [] b d k h = absurd (not-suc-le-zero h)
read_at (f ∷ fs) b d zero h = refl
read_at (f ∷ fs) b d (suc k) h = read_at fs b d k (le_of_suc-le-suc h)

-- ## writing

pub length-write : (fs : List Field) (vs b : List ℕ) → length (write_all fs vs b) ≡ length b
length-write [] vs b = refl
length-write (f ∷ fs) [] b = refl
length-write (f ∷ fs) (v ∷ vs) b = length-write fs vs (with_value f v b) ∙ length-with f v b

-- a field apart from all that are written is as it was
value-kept : (f : Field) (gs : List Field) (vs b : List ℕ) → T (all_apart f gs) → value_of f (write_all gs vs b) ≡ value_of f b
value-kept f [] vs b t = refl
value-kept f (g ∷ gs) [] b t = refl
value-kept f (g ∷ gs) (v ∷ vs) b t =
    value-kept f gs vs (with_value g v b) (right (apart f g) (all_apart f gs) t)
    ∙ value-other f g v b (apart-cases f g (left (apart f g) (all_apart f gs) t))

digits-kept : (f : Field) (gs : List Field) (vs b : List ℕ) → T (all_apart f gs) → digits_good f (write_all gs vs b) ≡ digits_good f b
digits-kept f [] vs b t = refl
digits-kept f (g ∷ gs) [] b t = refl
digits-kept f (g ∷ gs) (v ∷ vs) b t =
    digits-kept f gs vs (with_value g v b) (right (apart f g) (all_apart f gs) t)
    ∙ digits-other f g v b (apart-cases f g (left (apart f g) (all_apart f gs) t))

-- the table holds after a field is written as before
still-sound : (f : Field) (v : ℕ) (b : List ℕ) (fs : List Field) → T (sound (8 * length b) fs)
    → T (sound (8 * length (with_value f v b)) fs)
still-sound f v b fs t = subst (λ (n : ℕ). T (sound (8 * n) fs)) (sym (length-with f v b)) t

-- what was written is read
pub read-write : (fs : List Field) (vs b : List ℕ) → T (sound (8 * length b) fs) → T (all_fit decimal_fits fs vs)
    → T (all_fit binary_fits fs vs)
    → read_all fs (write_all fs vs b) ≡ vs
read-write [] [] b t d n = refl
read-write [] (v ∷ vs) b t d n = absurd d
read-write (f ∷ fs) [] b t d n = absurd d
read-write (f ∷ fs) (v ∷ vs) b t d n =
    let c : List ℕ = with_value f v b in
    let head : value_of f (write_all fs vs c) ≡ v =
    value-kept f fs vs c (sound-apart (8 * length b) f fs t)
    ∙ value-with f v b (sound-readable (8 * length b) f fs t) (sound-digits (8 * length b) f fs t)
    (sound-inside (8 * length b) f fs t)
    (left (decimal_fits f v) (all_fit decimal_fits fs vs) d) (left (binary_fits f v) (all_fit binary_fits fs vs) n) in
    let tail : read_all fs (write_all fs vs c) ≡ vs =
    read-write fs vs c (still-sound f v b fs (sound-rest (8 * length b) f fs t))
    (right (decimal_fits f v) (all_fit decimal_fits fs vs) d) (right (binary_fits f v) (all_fit binary_fits fs vs) n) in
    λ i. head i ∷ tail i

-- and its digits are good
pub digits-write : (fs : List Field) (vs b : List ℕ) → T (sound (8 * length b) fs) → T (all_fit decimal_fits fs vs)
    → T (all_fit binary_fits fs vs)
    → T (all_digits_good fs (write_all fs vs b))
digits-write [] [] b t d n = tt
digits-write [] (v ∷ vs) b t d n = absurd d
digits-write (f ∷ fs) [] b t d n = absurd d
digits-write (f ∷ fs) (v ∷ vs) b t d n =
    let c : List ℕ = with_value f v b in
    both (digits_good f (write_all fs vs c)) (all_digits_good fs (write_all fs vs c))
    (subst T (sym (digits-kept f fs vs c (sound-apart (8 * length b) f fs t)))
    (digits-with f v b (sound-readable (8 * length b) f fs t) (sound-digits (8 * length b) f fs t)
    (sound-inside (8 * length b) f fs t)
    (left (decimal_fits f v) (all_fit decimal_fits fs vs) d) (left (binary_fits f v) (all_fit binary_fits fs vs) n)))
    (digits-write fs vs c (still-sound f v b fs (sound-rest (8 * length b) f fs t))
    (right (decimal_fits f v) (all_fit decimal_fits fs vs) d) (right (binary_fits f v) (all_fit binary_fits fs vs) n))

-- what was read and is written back changes nothing
pub write_read : (n : ℕ) (fs : List Field) (b : List ℕ) → T (sound n fs) → ((k : ℕ) → get_or b k 0 < 256) → T (all_digits_good fs b)
    → write_all fs (read_all fs b) b ≡ b
write_read n [] b t h g = refl
write_read n (f ∷ fs) b t h g =
    ap (write_all fs (read_all fs b))
    (with_value_lem f b (sound-readable n f fs t) (sound-digits n f fs t) h (left (digits_good f b) (all_digits_good fs b) g))
    ∙ write_read n fs b (sound-rest n f fs t) h (right (digits_good f b) (all_digits_good fs b) g)

-- what is read from good digits fits
pub values-fit : (n : ℕ) (fs : List Field) (b : List ℕ) → T (sound n fs) → T (all_digits_good fs b)
    → T (all_fit decimal_fits fs (read_all fs b)) × T (all_fit binary_fits fs (read_all fs b))
values-fit n [] b t g = (tt, tt)
values-fit n (f ∷ fs) b t g =
    let p = read_fits f b (sound-readable n f fs t) (sound-digits n f fs t) (left (digits_good f b) (all_digits_good fs b) g) in
    let q = values-fit n fs b (sound-rest n f fs t) (right (digits_good f b) (all_digits_good fs b) g) in (
      both (decimal_fits f (value_of f b)) _ p.0 q.0,
      both (binary_fits f (value_of f b)) _ p.1 q.1,
    )

-- each value fits its field
pub fit_at : (fits : Field → ℕ → Bool) (fs : List Field) (vs : List ℕ) (k : ℕ) → T (all_fit fits fs vs) → k < length fs
    → T (fits (get_or fs k none) (get_or vs k 0))
fit_at fits [] vs k t h = absurd (not-suc-le-zero h)
fit_at fits (f ∷ fs) [] k t h = absurd t
fit_at fits (f ∷ fs) (v ∷ vs) zero t h = left (fits f v) (all_fit fits fs vs) t
fit_at fits (f ∷ fs) (v ∷ vs) (suc k) t h = fit_at fits fs vs k (right (fits f v) (all_fit fits fs vs) t) (le_of_suc-le-suc h)

-- bits that no field names are kept
pub bits-kept : (fs : List Field) (vs b : List ℕ) (i : ℕ) → unnamed i fs → bit_at (write_all fs vs b) i ≡ bit_at b i
bits-kept [] vs b i u = refl
bits-kept (f ∷ fs) [] b i u = refl
bits-kept (f ∷ fs) (v ∷ vs) b i u = bits-kept fs vs (with_value f v b) i u.1 ∙ bit-other f v b i u.0

pub past-unnamed : (n : ℕ) (fs : List Field) (i : ℕ) → T (sound n fs) → n ≤ i → unnamed i fs
past-unnamed n [] i t h = tt
past-unnamed n (f ∷ fs) i t h = (inr (omega (arith, sound-inside n f fs t)), past-unnamed n fs i (sound-rest n f fs t) h)

-- the bits between two where no field is belong to none
pub between-unnamed : (first end : ℕ) (fs : List Field) (i : ℕ) → T (no_field first end fs) → first ≤ i → i < end → unnamed i fs
between-unnamed first end [] i t p q = tt
between-unnamed first end (f ∷ fs) i t p q = (
  ⊎_elim (λ h. inr (omega (arith, leb→le (start f + bit_width f) first h))) (λ h. inl (omega (arith, leb→le end (start f) h)))
      (either (leb (start f + bit_width f) first) (leb end (start f))
      (left (leb (start f + bit_width f) first || leb end (start f)) (no_field first end fs) t)),
  between-unnamed first end fs i (right (leb (start f + bit_width f) first || leb end (start f)) (no_field first end fs) t) p q,
)
