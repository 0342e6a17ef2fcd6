-- The record that what is left of a reel of the edition n begins with: its length in words, what no refusal tells of it, and
-- that after 1 and 2 come 3 to 11. Assumes nothing.
use Prim.Native.Nat.{ℕ, ◌+◌, ◌*◌, ◌/◌, ◌%◌, ◌^◌, ◌-◌, ◌≤◌, ◌<◌}
use mathlib.Core.Path.{◌≡◌, refl, ap, sym, subst, ◌∙◌}
use mathlib.Core.Bool.{Bool, true, false, cond, not, ◌&&◌, ◌||◌}
use mathlib.Core.List.{List, [], ◌∷◌, ◌++◌}
use mathlib.Core.Logic.{◌⊎◌, inl, inr, ⊎_elim}
use native.Mathlib.Omega.{arith}
use lib.Dec.{T, leb, ltb, leb→le, lit≤}
use lib.ListN.{length, take, drop, length-append}
use lib.Seq.{get_or-take, length-take-le, take-append_seam}
use borrow.Author.Tests.{ltb-false, le-ltb, eq-eqb}
use Rattle.lists.proofs.Truth.{left, right, or-false}
use Rattle.bits.specs.Bits.{bit_at, get_bits}
use Rattle.bits.proofs.Bits.{num-ext, get_bits-lt}
use Rattle.fields.specs.Field.{start, bit_width, value_of}
use Rattle.fields.specs.Table.{all_digits_good}
use Rattle.header.specs.Edition.{is_unknown, header_bytes, fields_of}
use Rattle.header.proofs.Sound.{of-editions}
use Rattle.header.specs.Rows.{length_words}
use Rattle.answers.specs.Refusal.{Check, first}
use Rattle.checks.specs.declared.Judged.{Judged}
use Rattle.checks.specs.Checks.{checks, judged_of}
use Rattle.record.specs.Record.{record_refusal}
use Rattle.answers.proofs.Refusals.{none-applies, then-none, then-zero, then-most, first-most}
use Rattle.record.proofs.Accepted.{record-facts}
use Rattle.reel.specs.Reel.{header_words, words_in, rest_checks, rest_refusal}

-- ## the length in words

pub words_small : (b : List ℕ) → words_in b < 2 ^ 16
unfolding value_of
words_small b = get_bits-lt (start length_words) (bit_width length_words) b

-- a field of bits that lies within the first k bytes is read from those alone
pub get_bits-take : (s w k : ℕ) (b : List ℕ) → s + w ≤ 8 * k → get_bits s w (take k b) ≡ get_bits s w b
unfolding get_bits bit_at
get_bits-take s w k b h =
    num-ext (bit_at (take k b)) (bit_at b) s w
    (λ i p q. ap (λ (x : ℕ). x / 2 ^ (7 - i % 8) % 2) (get_or-take k b (i / 8) 0 (omega arith)))

-- the length stands in word 3, so the first six bytes tell it
pub words_take : (k : ℕ) (b : List ℕ) → 6 ≤ k → words_in (take k b) ≡ words_in b
unfolding value_of
words_take k b h = get_bits-take (start length_words) (bit_width length_words) k b (omega arith)

-- the header of every edition has that word, and whole words
pub header-size : (n : ℕ) → (6 ≤ header_bytes n) × (header_bytes n ≡ 2 * header_words n)
header-size =
    of-editions (λ e. (6 ≤ e.layout.header-bytes) × (e.layout.header-bytes ≡ 2 * (e.layout.header-bytes / 2)))
    (lit≤ tt, refl) (lit≤ tt, refl)

-- ## what no refusal tells

pub record Whole (n : ℕ) (rest : List ℕ) : Type 0 where
  pub words : header_words n ≤ words_in rest
  pub inside : 2 * words_in rest ≤ length rest
  pub good : record_refusal n (take (2 * words_in rest) rest) ≡ 0

pub whole : (n : ℕ) (rest : List ℕ) → rest_refusal n rest ≡ 0 → Whole n rest
unfolding rest_refusal
whole n rest e =
    let cs = rest_checks n (length rest) (words_in rest) in
    let z = then-zero (first cs) _ e in
    record {
      words = ltb-false (words_in rest) (header_words n) (or-false (ltb (length rest) (header_bytes n))
          (ltb (words_in rest) (header_words n)) (none-applies cs 0 tt z.0)).1;
      inside = ltb-false (length rest) (2 * words_in rest) (none-applies cs 1 tt z.0);
      good = z.1;
    }

-- ## 3 to 11

-- a number that is 0, for none, or from lo to hi
abbrev pub NoneOr : ℕ → ℕ → ℕ → Type 0
NoneOr lo hi k = (k ≡ 0) ⊎ ((lo ≤ k) × (k ≤ hi))

abbrev numbers_within : ℕ → ℕ → List Check → Bool
numbers_within lo hi [] = true
numbers_within lo hi (c ∷ cs) = (leb lo c.number && leb c.number hi) && numbers_within lo hi cs

first-within : (lo hi : ℕ) (cs : List Check) → T (numbers_within lo hi cs) → NoneOr lo hi (first cs)
first-within lo hi [] t = inl refl
first-within lo hi (c ∷ cs) t =
    either_number c.applies (left (leb lo c.number && leb c.number hi) (numbers_within lo hi cs) t)
    (first-within lo hi cs (right (leb lo c.number && leb c.number hi) (numbers_within lo hi cs) t))
  where
    either_number : (b : Bool) → T (leb lo c.number && leb c.number hi) → NoneOr lo hi (first cs)
        → NoneOr lo hi (cond b c.number (first cs))
    either_number true u h =
        inr (
          leb→le lo c.number (left (leb lo c.number) (leb c.number hi) u),
          leb→le c.number hi (right (leb lo c.number) (leb c.number hi) u),
        )
    either_number false u h = h

-- what is judged of the bytes
abbrev judged : ℕ → List ℕ → Judged
judged n b = judged_of n (length b) (λ f. value_of f b) (all_digits_good (fields_of n) b)

module _ (n : ℕ) (known : is_unknown n ≡ false) where
  -- in an edition, a record's own refusal is 1 to 11; of at least a header, and twice its words, 3 to 11
  pub record-number : (b : List ℕ) → NoneOr 1 11 (record_refusal n b)
  unfolding record_refusal
  record-number b =
      let cs = drop 1 (checks n (judged n b)) in
      subst (NoneOr 1 11) (sym (λ i. cond (known i) 25 (first cs))) (first-within 1 11 cs tt)

  pub three-on : (b : List ℕ) → header_bytes n ≤ length b → length b ≡ 2 * words_in b → NoneOr 3 11 (record_refusal n b)
  unfolding record_refusal
  three-on b h e =
      let cs = drop 3 (checks n (judged n b)) in
      subst (NoneOr 3 11)
      (sym (λ i. cond (known i) 25 (cond (le-ltb (length b) (header_bytes n) h i) 1
      (cond (not (eq-eqb (length b) (2 * words_in b) e i)) 2 (first cs)))))
      (first-within 3 11 cs tt)

-- where neither 1 nor 2 applies, the refusal is the record's own
module _ (n : ℕ) (rest : List ℕ) (long : header_bytes n ≤ length rest) (words : header_words n ≤ words_in rest)
    (inside : 2 * words_in rest ≤ length rest) where
  no-check : first (rest_checks n (length rest) (words_in rest)) ≡ 0
  no-check =
      (λ i. cond (le-ltb (length rest) (header_bytes n) long i || le-ltb (words_in rest) (header_words n) words i) 1
      (cond (le-ltb (length rest) (2 * words_in rest) inside i) 2 0))

  pub own-refusal : rest_refusal n rest ≡ record_refusal n (take (2 * words_in rest) rest)
  unfolding rest_refusal
  own-refusal = then-none (first (rest_checks n (length rest) (words_in rest)))
      (record_refusal n (take (2 * words_in rest) rest)) no-check

  -- FORMAT: then 3 to 11
  pub then-three-to-eleven : is_unknown n ≡ false → NoneOr 3 11 (rest_refusal n rest)
  then-three-to-eleven known =
      let k = 2 * words_in rest in
      let h = header-size n in
      let size : length (take k rest) ≡ k = length-take-le k rest inside in
      subst (NoneOr 3 11) (sym own-refusal)
      (three-on n known (take k rest) (omega (arith, size, h.1))
      (size ∙ ap (λ (w : ℕ). 2 * w) (sym (words_take k rest (omega (arith, h.0, h.1))))))

-- no refusal of a reel of an edition is above 11
pub rest-number : (n : ℕ) (rest : List ℕ) → is_unknown n ≡ false → rest_refusal n rest ≤ 11
unfolding rest_refusal
rest-number n rest known =
    then-most (first (rest_checks n (length rest) (words_in rest))) (record_refusal n (take (2 * words_in rest) rest)) 11
    (first-most 11 (rest_checks n (length rest) (words_in rest)) tt)
    (⊎_elim (λ z. omega (arith, z)) (λ z. z.1) (record-number n known (take (2 * words_in rest) rest)))

-- ## an accepted record at the front

pub accepted-size : (n : ℕ) (b : List ℕ) → record_refusal n b ≡ 0 → (header_bytes n ≤ length b) × (length b ≡ 2 * words_in b)
accepted-size n b e = let f = record-facts n b e in (f.long, f.words)

module _ (n : ℕ) (b rest : List ℕ) (e : record_refusal n b ≡ 0) where
  pub front-size : 2 * words_in (b ++ rest) ≡ length b
  front-size =
      let h = (accepted-size n b e).0 in
      sym
      ((accepted-size n b e).1
      ∙ ap (λ (l : List ℕ). 2 * words_in l) (sym (take-append_seam b rest))
      ∙ ap (λ (w : ℕ). 2 * w) (words_take (length b) (b ++ rest) (omega (arith, (header-size n).0))))

  pub front-accepted : rest_refusal n (b ++ rest) ≡ 0
  front-accepted =
      let h = (accepted-size n b e).0 in
      let z = front-size in
      let l = length-append b rest in
      own-refusal n (b ++ rest) (omega arith) (omega arith) (omega arith)
      ∙ ap (λ (k : ℕ). record_refusal n (take k (b ++ rest))) z
      ∙ ap (record_refusal n) (take-append_seam b rest)
      ∙ e
