-- What each cell of a second measures: a number of the records that the second has, by their list. Assumes nothing.
use Prim.Native.Nat.{ℕ, zero, suc, ◌+◌, ◌<◌, ◌≤◌}
use mathlib.Core.Path.{◌≡◌, refl, ap, sym, ◌∙◌}
use mathlib.Core.Bool.{Bool, true, false, cond}
use mathlib.Core.List.{List, [], ◌∷◌, ◌++◌, flat_map, append_assoc, append-nil}
use mathlib.Core.Option.{Option, none, some}
use native.Mathlib.Omega.{arith}
use lib.Dec.{eqb}
use lib.IntN.{ℤ}
use lib.ListN.{get_or, length, length-append}
use Rattle.totals.specs.Total.{added_of, square_of, squares_of, clipped_one, clipped_of}
use Rattle.totals.proofs.Sums.{added-append}
use Rattle.index_model.specs.declared.Opening.{Opening}
use Rattle.index_model.specs.Records.{Record, second_of, has_origin, has_error, channel_samples}
use Rattle.index_model.specs.Cells.{
  channel_width,
  channel_cell,
  least_at,
  sum_at,
  squares_at,
  clipped_at,
  greatest_at,
  row_of,
  flag,
  is_greatest,
}
use Rattle.index_model.specs.Ledger.{Ledger, record_in, records_of, count_of}
use Rattle.index_model.proofs.Merges.{plain_by, plain-sum}
use Rattle.index_model.proofs.Rows.{row-records, row-origin, row-error, channel-kind}
use Rattle.index_model.proofs.Totals.{share, cell_total, count-sum}
use Rattle.index_model.proofs.Codes.{offset, sum_code, top_code, top-append, least_code, greatest_code, codes}
use Rattle.index_model.proofs.Sound.{Sound, SoundLedger, row-codes}

-- m is what cell j measures of a list of records
pub record Measures (o : Opening) (j : ℕ) (m : List Record → ℕ) : Type 0 where
  pub empty : m [] ≡ 0
  pub append : (r t : List Record) → m (r ++ t) ≡ plain_by (is_greatest j) (m r) (m t)
  pub single : (b : Record) → Sound o b → get_or (row_of b) j 0 ≡ m (b ∷ [])

-- so it is of the second's records, in the order of their numbers
module _ {o : Opening} {j : ℕ} {m : List Record → ℕ} (of : Measures o j m) (L : Ledger) (sound : SoundLedger o L) (s : ℕ) where
  share-measured : (held : Option Record) → ((b : Record) → held ≡ some b → Sound o b) → share s j held ≡ m (record_in s held)
  unfolding share
  share-measured none h = sym of.empty
  share-measured (some b) h = by-test (eqb (second_of b) s)
    where
      by-test : (t : Bool) → cond t (get_or (row_of b) j 0) 0 ≡ m (cond t (b ∷ []) [])
      by-test true = of.single b (h b refl)
      by-test false = sym of.empty

  pub measured : (n : ℕ) → cell_total L s j n ≡ m (records_of L s n)
  unfolding cell_total records_of
  measured zero = sym of.empty
  measured (suc n) =
      (λ t. plain_by (is_greatest j) (measured n t) (share-measured (L (suc n)) (sound (suc n)) t))
      ∙ sym (of.append (records_of L s n) (record_in s (L (suc n))))

-- ## the counts

pub measures-records : (o : Opening) → Measures o 0 length
measures-records o =
    record {
      empty = refl;
      append = λ r t. length-append r t ∙ sym (count-sum (length r) (length t));
      single = λ b h. row-records b;
    }

count-append : (test : Record → Bool) (r t : List Record) → count_of test (r ++ t) ≡ count_of test r + count_of test t
unfolding count_of
count-append test [] t = omega arith
count-append test (b ∷ r) t = omega (arith, count-append test r t)

-- a flag that the row has in a cell that is a sum
measures-flag : (o : Opening) (j : ℕ) (test : Record → Bool) → is_greatest j ≡ false
    → ((b : Record) → get_or (row_of b) j 0 ≡ flag (test b)) → Measures o j (count_of test)
unfolding count_of
measures-flag o j test g is =
    record {
      empty = refl;
      append = λ r t. count-append test r t ∙ sym (plain-sum (is_greatest j) (count_of test r) (count_of test t) g);
      single = λ b h. is b ∙ (let z : flag (test b) ≡ flag (test b) + 0 = omega arith in z);
    }

pub measures-origins : (o : Opening) → Measures o 1 (count_of has_origin)
unfolding is_greatest
measures-origins o = measures-flag o 1 has_origin refl row-origin

pub measures-errors : (o : Opening) → Measures o 2 (count_of has_error)
unfolding is_greatest
measures-errors o = measures-flag o 2 has_error refl row-error

-- ## the channels

flat_append : (f : Record → List ℤ) (r t : List Record) → flat_map f (r ++ t) ≡ flat_map f r ++ flat_map f t
unfolding flat_map
flat_append f [] t = refl
flat_append f (b ∷ r) t = ap (λ (l : List ℤ). f b ++ l) (flat_append f r t) ∙ sym (append_assoc (f b) (flat_map f r) (flat_map f t))

flat-one : (f : Record → List ℤ) (b : Record) → flat_map f (b ∷ []) ≡ f b
unfolding flat_map
flat-one f b = append-nil (f b)

module _ (o : Opening) (c : ℕ) (p : 1 ≤ c) (q : c ≤ 4) where
  -- a code of samples that cell i of the channel holds
  measures-code : (i : ℕ) → i < channel_width → (code : List ℤ → ℕ) → code [] ≡ 0
      → ((l k : List ℤ) → code (l ++ k) ≡ plain_by (is_greatest (channel_cell 1 i)) (code l) (code k))
      → ((l : List ℤ) → get_or (codes l) i 0 ≡ code l)
      → Measures o (channel_cell c i) (λ (r : List Record). code (flat_map (channel_samples c) r))
  unfolding flat_map
  measures-code i h code zeroes joined is =
      record {
        empty = zeroes;
        append =
            λ r t.
            ap code (flat_append (channel_samples c) r t)
            ∙ joined (flat_map (channel_samples c) r) (flat_map (channel_samples c) t)
            ∙ sym (λ k. plain_by (channel-kind c i k) (code (flat_map (channel_samples c) r))
            (code (flat_map (channel_samples c) t)));
        single =
            λ b s. row-codes b s.accepted c i p q h ∙ is (channel_samples c b) ∙ ap code (sym (flat-one (channel_samples c) b));
      }

  pub measures-least : Measures o (channel_cell c least_at) (λ (r : List Record). top_code least_code (flat_map (channel_samples c) r))
  unfolding plain_by is_greatest top_code
  measures-least = measures-code least_at (omega arith) (top_code least_code) refl (top-append least_code) (λ l. refl)

  pub measures-sum : Measures o (channel_cell c sum_at) (λ (r : List Record). sum_code (flat_map (channel_samples c) r))
  unfolding plain_by is_greatest added_of
  measures-sum = measures-code sum_at (omega arith) sum_code refl (added-append offset) (λ l. refl)

  pub measures-squares : Measures o (channel_cell c squares_at) (λ (r : List Record). squares_of (flat_map (channel_samples c) r))
  unfolding plain_by is_greatest added_of
  measures-squares = measures-code squares_at (omega arith) squares_of refl (added-append square_of) (λ l. refl)

  pub measures-clipped : Measures o (channel_cell c clipped_at) (λ (r : List Record). clipped_of (flat_map (channel_samples c) r))
  unfolding plain_by is_greatest added_of
  measures-clipped = measures-code clipped_at (omega arith) clipped_of refl (added-append clipped_one) (λ l. refl)

  pub measures-greatest : Measures o (channel_cell c greatest_at)
      (λ (r : List Record). top_code greatest_code (flat_map (channel_samples c) r))
  unfolding plain_by is_greatest top_code
  measures-greatest = measures-code greatest_at (omega arith) (top_code greatest_code) refl (top-append greatest_code) (λ l. refl)
