-- An accepted opening: no later call refuses what it returned, and its cells agree with the empty ledger. Assumes nothing.
use Prim.Native.Nat.{ℕ, zero, suc, ◌+◌, ◌*◌, ◌≤◌}
use mathlib.Core.Path.{◌≡◌, refl, ap, sym, ◌∙◌, subst}
use mathlib.Core.Bool.{Bool, true, false, cond, ◌||◌}
use mathlib.Core.List.{List, [], ◌∷◌}
use native.Mathlib.Omega.{arith}
use lib.Dec.{eqb}
use lib.ListN.{get_or, length}
use Rattle.lists.proofs.Fill.{over-low, length_over}
use Rattle.lists.proofs.Truth.{or-false}
use Rattle.fields.specs.Table.{all_digits_good}
use Rattle.fields.specs.Field.{value_of}
use Rattle.header.specs.Edition.{fields_of}
use Rattle.header.specs.Rows.{tape_number, record_number}
use Rattle.checks.specs.declared.Judged.{Judged}
use Rattle.checks.specs.Checks.{checks, judged_of}
use Rattle.answers.specs.Answer.{Answer}
use Rattle.record.specs.Record.{record_refusal}
use borrow.Author.Tests.{eqb-true}
use Rattle.answers.specs.Refusal.{◌when◌, first, ◌then◌}
use Rattle.answers.proofs.Refusals.{no_check, none-applies, then-zero, unless-none, cond-none}
use Rattle.index_model.specs.Records.{Record, refusal_of}
use Rattle.index_model.specs.declared.Opening.{Opening}
use Rattle.index_model.specs.Cells.{width, is_greatest}
use Rattle.index_model.specs.Buffers.{Buffers}
use Rattle.index_model.specs.Opening.{
  limits_wrong,
  held_wrong,
  too_small,
  opening_refusal,
  opening_of,
  no_opening,
  cleared,
  open_refusal,
  open_answer,
  opened,
}
use Rattle.index_model.specs.Ledger.{no_records}
use Rattle.index_model.proofs.Merges.{plain_by, plain-none}
use Rattle.index_model.proofs.Rows.{no-row}
use Rattle.index_model.proofs.Totals.{share, cell_total}
use Rattle.index_model.proofs.Limits.{enough}
use Rattle.index_model.proofs.Agreement.{Regular, Agree}

nothing-held : (s j m : ℕ) → cell_total no_records s j m ≡ 0
unfolding cell_total share
nothing-held s j zero = refl
nothing-held s j (suc m) = (λ t. plain_by (is_greatest j) (nothing-held s j m t) 0) ∙ plain-none (is_greatest j) 0

pub regular-empty : (o : Opening) → Regular o no_records
regular-empty o =
    record {
      few = λ s. omega (arith, nothing-held s 0 o.highest_number);
      sound = λ n b e. absurd (let z : ◌≡◌ {A = ℕ} 0 1 = cc in omega arith);
    }

-- the edition and the held values of an accepted pattern pass 25, 5, 7 and 8
held-fine : (pattern : Record) (F C R : ℕ) → refusal_of pattern ≡ 0 → held_wrong (opening_of pattern F C R) ≡ false
unfolding record_refusal held_wrong
held-fine pattern F C R e =
    λ t. at 0 t || at 5 t || (or-false (eqb (value_of tape_number b) 0) (eqb (value_of record_number b) 0) (at 7)).0 t || at 8 t
  where
    n : ℕ
    n = pattern.edition

    b : List ℕ
    b = pattern.bytes

    judged : Judged
    judged = judged_of n (length b) (λ f. value_of f b) (all_digits_good (fields_of n) b)

    at : (k : ℕ) → (get_or (checks n judged) k no_check).applies ≡ false
    at k = none-applies (checks n judged) k tt e

-- so opening refuses the pattern, or else what every later call does
pub open_by : (pattern : Record) (F C R : ℕ) (c : Buffers)
    → open_refusal pattern F C R c ≡ refusal_of pattern then opening_refusal (opening_of pattern F C R) c
unfolding open_refusal opening_refusal
open_by pattern F C R c = by-test (eqb (refusal_of pattern) 0) refl
  where
    o : Opening
    o = opening_of pattern F C R

    later : Bool → ℕ
    later wrong = first (13 when wrong ∷ 14 when too_small o c ∷ [])

    or-none : (a b : Bool) → b ≡ false → a || b ≡ a
    or-none true b e = refl
    or-none false b e = e

    by-test : (t : Bool) → eqb (refusal_of pattern) 0 ≡ t
        → cond t (later (limits_wrong o)) (refusal_of pattern) ≡ cond t (later (limits_wrong o || held_wrong o)) (refusal_of pattern)
    by-test true e = ap later (sym (or-none _ _ (held-fine pattern F C R (eqb-true (refusal_of pattern) 0 e))))
    by-test false e = refl

module _ (pattern : Record) (F C R : ℕ) (c : Buffers) (e : open_refusal pattern F C R c ≡ 0) where
  abbrev o : Opening
  o = opening_of pattern F C R

  limits : (refusal_of pattern ≡ 0) × (first (13 when limits_wrong o ∷ 14 when too_small o c ∷ []) ≡ 0)
  unfolding open_refusal
  limits = then-zero (refusal_of pattern) (first (13 when limits_wrong o ∷ 14 when too_small o c ∷ [])) e

  at : (k : ℕ) → (get_or (13 when limits_wrong o ∷ 14 when too_small o c ∷ []) k no_check).applies ≡ false
  at k = none-applies (13 when limits_wrong o ∷ 14 when too_small o c ∷ []) k tt limits.1

  pub fine : limits_wrong o || held_wrong o ≡ false
  fine = λ t. at 0 t || held-fine pattern F C R limits.0 t

  pub long : (width * R ≤ length c.rows) × (width * C ≤ length c.seconds)
  long = enough o c (at 1)

  pub returned : (open_answer pattern F C R c).value ≡ o
  unfolding open_answer
  returned = sym (ap (λ (a : Answer Opening). a.value) (unless-none (open_refusal pattern F C R c) no_opening o e))

  pub is-cleared : opened pattern F C R c ≡ cleared C R c
  unfolding opened
  is-cleared = cond-none (open_refusal pattern F C R c) c (cleared C R c) e

  rows-kept : length (cleared C R c).rows ≡ length c.rows
  rows-kept = length_over _ _ _ (omega (arith, long.0))

  seconds-kept : length (cleared C R c).seconds ≡ length c.seconds
  seconds-kept = length_over _ _ _ (omega (arith, long.1))

  cleared-agrees : Agree o no_records (cleared C R c)
  cleared-agrees =
      record {
        rows_long = omega (arith, rows-kept, long.0);
        seconds-long = omega (arith, seconds-kept, long.1);
        rows_are = λ i hi j hj. over-low c.rows (λ (k : ℕ). 0) 0 _ (width * i + j) (omega arith) ∙ sym (no-row j hj);
        seconds-are =
            λ k hk j hj. over-low c.seconds (λ (k : ℕ). 0) 0 _ (width * k + j) (omega arith)
            ∙ sym (nothing-held (F + k) j R);
      }

  pub opened-agrees : Agree o no_records (opened pattern F C R c)
  opened-agrees = subst (Agree o no_records) (sym is-cleared) cleared-agrees
