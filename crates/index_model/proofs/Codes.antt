-- A channel's samples as the numbers in cells: the offset less the least, the sum with the offset of each sample, the sum of
-- squares, the count of clipped ones, the greatest plus its offset; and that the cells decode to the channel's total. Assumes
-- nothing.
use Prim.Native.Nat.{ℕ, suc, ◌+◌, ◌-◌, ◌*◌, ◌%◌, ◌<◌, ◌≤◌, max}
use mathlib.Core.Path.{◌≡◌, refl, ap, sym, ◌∙◌}
use mathlib.Core.List.{List, [], ◌∷◌, ◌++◌, foldl}
use mathlib.Core.Logic.{⊎_elim}
use native.Mathlib.Nat.{lt_irrefl}
use native.Mathlib.Omega.{arith}
use lib.IntN.{ℤ, pos, negsuc, sub_ℕ, ◌+ℤ◌, ◌-ℤ◌}
use lib.ListN.{length}
use mir.Syntax.{w8}
use mir.Val.{SFits}
use Rattle.lists.proofs.Order.{le-or-lt}
use Rattle.channels.specs.Sample.{signed_of}
use Rattle.channels.proofs.Sign.{signed_low, signed_high}
use Rattle.totals.specs.Total.{sum_of, added_of, squares_of, lesser, greater, kept_of, least_of, greatest_of, clipped_of, total_of}
use Rattle.totals.proofs.Samples.{Bytes}
use Rattle.totals.proofs.Sums.{added-bound}
use Rattle.index_model.specs.Cells.{sample_offset, greatest_offset, nat_of, channel_cells}
use Rattle.index_model.specs.Calls.{least_from, greatest_from}
use Rattle.index_model.proofs.Differences.{
  sub-pos,
  sub-neg,
  sub_same,
  sub-add,
  nat-plus,
  nat-minus,
  lesser-max,
  greater-max,
}

-- a sample and its offset, from 0 to 255
unfoldable pub offset : ℤ → ℕ
offset (pos n) = sample_offset + n
offset (negsuc n) = sample_offset - suc n

pub offset-small : (x : ℤ) → SFits w8 x → offset x < 256
unfolding offset
offset-small (pos n) h = omega (arith, h.sfits)
offset-small (negsuc n) h = omega (arith, h.sfits)

pub offset-back : (x : ℤ) → SFits w8 x → x ≡ sub_ℕ (offset x) sample_offset
unfolding offset
offset-back (pos n) h = sym (sub-pos (sample_offset + n) sample_offset n (omega arith))
offset-back (negsuc n) h = sym (sub-neg (sample_offset - suc n) sample_offset n (omega (arith, h.sfits)))

-- ## sums

abbrev pub sum_code : List ℤ → ℕ
sum_code l = added_of offset l

pub sum-code-small : (l : List ℤ) → Bytes l → sum_code l ≤ 255 * length l
sum-code-small = added-bound offset 255 (λ x f. omega (arith, offset-small x f))

pub sum-decoded : (l : List ℤ) → Bytes l → sum_of l ≡ sub_ℕ (sum_code l) (sample_offset * length l)
unfolding sum_of added_of
sum-decoded [] h = refl
sum-decoded (x ∷ l) h =
    (λ t. offset-back x h.0 t +ℤ sum-decoded l h.1 t)
    ∙ sub-add (offset x) sample_offset (sum_code l) (sample_offset * length l)
    ∙ sub_same (offset x + sum_code l) (sample_offset + sample_offset * length l) (offset x + sum_code l)
    (sample_offset * suc (length l)) (omega arith)

-- ## least and greatest

-- codes of samples, 1 to 256, of which the greatest is kept; values of codes; and the rule that keeps one of two samples
pub record Coding (rule : ℤ → ℤ → ℤ) (code : ℤ → ℕ) (value : ℕ → ℤ) : Type 0 where
  pub kept : (a b : ℕ) → rule (value a) (value b) ≡ value (max a b)
  pub back : (x : ℤ) → SFits w8 x → x ≡ value (code x)
  pub some : (x : ℤ) → SFits w8 x → 1 ≤ code x
  pub most : (x : ℤ) → SFits w8 x → code x ≤ 256

-- the greatest code of a list
unfoldable pub top_code : (ℤ → ℕ) → List ℤ → ℕ
top_code code [] = 0
top_code code (x ∷ l) = max (code x) (top_code code l)

pub top-append : (code : ℤ → ℕ) (l m : List ℤ) → top_code code (l ++ m) ≡ max (top_code code l) (top_code code m)
unfolding top_code
top-append code [] m = omega arith
top-append code (x ∷ l) m = omega (arith, top-append code l m)

module _ {rule : ℤ → ℤ → ℤ} {code : ℤ → ℕ} {value : ℕ → ℤ} (c : Coding rule code value) where
  fold-decoded : (a : ℕ) (l : List ℤ) → Bytes l → foldl rule (value a) l ≡ value (max a (top_code code l))
  unfolding top_code
  fold-decoded a [] h = ap value (let z : a ≡ max a 0 = omega arith in z)
  fold-decoded a (x ∷ l) h =
      (λ t. foldl rule (rule (value a) (c.back x h.0 t)) l)
      ∙ (λ t. foldl rule (c.kept a (code x) t) l)
      ∙ fold-decoded (max a (code x)) l h.1
      ∙ ap value (let z : max (max a (code x)) (top_code code l) ≡ max a (max (code x) (top_code code l)) = omega arith in z)

  pub kept-decoded : (l : List ℤ) → Bytes l → 0 < length l → kept_of rule l ≡ value (top_code code l)
  unfolding kept_of top_code
  kept-decoded [] h p = absurd (lt_irrefl 0 p)
  kept-decoded (x ∷ l) h p = (λ t. foldl rule (c.back x h.0 t) l) ∙ fold-decoded (code x) l h.1

  pub top-most : (l : List ℤ) → Bytes l → top_code code l ≤ 256
  unfolding top_code
  top-most [] h = omega arith
  top-most (x ∷ l) h = omega (arith, c.most x h.0, top-most l h.1)

  pub top-some : (l : List ℤ) → Bytes l → 0 < length l → 1 ≤ top_code code l
  unfolding top_code
  top-some [] h p = absurd (lt_irrefl 0 p)
  top-some (x ∷ l) h p = omega (arith, c.some x h.0)

abbrev pub least_code : ℤ → ℕ
least_code x = 256 - offset x

abbrev pub greatest_code : ℤ → ℕ
greatest_code x = offset x + 1

pub least-coding : Coding lesser least_code (λ (a : ℕ). sub_ℕ sample_offset a)
least-coding =
    record {
      kept = λ a b. lesser-max a b sample_offset;
      back =
          λ x h. offset-back x h
          ∙ sub_same (offset x) sample_offset sample_offset (256 - offset x) (omega (arith, offset-small x h));
      some = λ x h. omega (arith, offset-small x h);
      most = λ x h. omega arith;
    }

pub greatest-coding : Coding greater greatest_code (λ (a : ℕ). sub_ℕ a greatest_offset)
greatest-coding =
    record {
      kept = λ a b. greater-max a b greatest_offset;
      back = λ x h. offset-back x h ∙ sub_same (offset x) sample_offset (offset x + 1) greatest_offset (omega arith);
      some = λ x h. omega arith;
      most = λ x h. omega (arith, offset-small x h);
    }

-- ## the cells of a channel are the codes of its samples

abbrev pub codes : List ℤ → List ℕ
codes l = top_code least_code l ∷ sum_code l ∷ squares_of l ∷ clipped_of l ∷ top_code greatest_code l ∷ []

pub cells-codes : (l : List ℤ) → Bytes l → (n : ℕ) → length l ≡ n → 0 < n → channel_cells n (total_of l) ≡ codes l
unfolding total_of
cells-codes l bytes n e p = λ t. least-cell t ∷ sum-cell t ∷ squares_of l ∷ clipped_of l ∷ greatest-cell t ∷ []
  where
    sum-cell : nat_of (sum_of l +ℤ pos (sample_offset * n)) ≡ sum_code l
    sum-cell =
        (λ t. nat_of (sum-decoded l bytes t +ℤ pos (sample_offset * n)))
        ∙ (λ t. nat_of (sub_ℕ (sum_code l) (sample_offset * e t) +ℤ pos (sample_offset * n)))
        ∙ nat-plus (sum_code l) (sample_offset * n)

    least-cell : nat_of (pos sample_offset -ℤ least_of l) ≡ top_code least_code l
    least-cell =
        (λ t. nat_of (pos sample_offset -ℤ kept-decoded least-coding l bytes (omega (arith, e)) t))
        ∙ nat-minus (top_code least_code l) sample_offset

    greatest-cell : nat_of (greatest_of l +ℤ pos greatest_offset) ≡ top_code greatest_code l
    greatest-cell =
        (λ t. nat_of (kept-decoded greatest-coding l bytes (omega (arith, e)) t +ℤ pos greatest_offset))
        ∙ nat-plus (top_code greatest_code l) greatest_offset

-- ## codes from 1 to 256 as signed bytes

pub least-from : (a : ℕ) → 1 ≤ a → a ≤ 256 → least_from a ≡ sub_ℕ sample_offset a
least-from a p q = ⊎_elim low high (le-or-lt a sample_offset)
  where
    low : a ≤ sample_offset → least_from a ≡ sub_ℕ sample_offset a
    low h =
        ap signed_of (let z : (256 + sample_offset - a % 256) % 256 ≡ sample_offset - a = omega arith in z)
        ∙ signed_low (sample_offset - a) (omega arith)
        ∙ sym (sub-pos sample_offset a (sample_offset - a) (omega arith))

    high : sample_offset < a → least_from a ≡ sub_ℕ sample_offset a
    high h =
        ap signed_of (let z : (256 + sample_offset - a % 256) % 256 ≡ 256 + sample_offset - a = omega arith in z)
        ∙ signed_high (256 + sample_offset - a) (omega arith)
        ∙ ap negsuc (let z : 255 - (256 + sample_offset - a) ≡ a - suc sample_offset = omega arith in z)
        ∙ sym (sub-neg sample_offset a (a - suc sample_offset) (omega arith))

pub greatest-from : (a : ℕ) → 1 ≤ a → a ≤ 256 → greatest_from a ≡ sub_ℕ a greatest_offset
greatest-from a p q = ⊎_elim low high (le-or-lt greatest_offset a)
  where
    raised : ℕ
    raised = a + (256 - greatest_offset)

    low : greatest_offset ≤ a → greatest_from a ≡ sub_ℕ a greatest_offset
    low h =
        ap signed_of (let z : raised % 256 ≡ a - greatest_offset = omega arith in z)
        ∙ signed_low (a - greatest_offset) (omega arith)
        ∙ sym (sub-pos a greatest_offset (a - greatest_offset) (omega arith))

    high : a < greatest_offset → greatest_from a ≡ sub_ℕ a greatest_offset
    high h =
        ap signed_of (let z : raised % 256 ≡ raised = omega arith in z)
        ∙ signed_high raised (omega arith)
        ∙ ap negsuc (let z : 255 - raised ≡ sample_offset - a = omega arith in z)
        ∙ sym (sub-neg a greatest_offset (sample_offset - a) (omega arith))

-- so the sample kept is read back from its code
pub kept_read : {rule : ℤ → ℤ → ℤ} {code : ℤ → ℕ} {value : ℕ → ℤ} → Coding rule code value → (from : ℕ → ℤ)
    → ((a : ℕ) → 1 ≤ a → a ≤ 256 → from a ≡ value a)
    → (l : List ℤ) → Bytes l → 0 < length l → (x : ℕ) → x ≡ top_code code l → from x ≡ kept_of rule l
kept_read {code = code} c from reads l signed some x e =
    ap from e ∙ reads (top_code code l) (top-some c l signed some) (top-most c l signed) ∙ sym (kept-decoded c l signed some)
