-- Each cell of a second over the records of a ledger, as a plain number: what one number gives, what changes when its entry
-- does, and that the pass over the rows, modulo 2^32, gives the same. Assumes nothing.
use Prim.Native.Nat.{ℕ, zero, suc, ◌+◌, ◌*◌, ◌<◌, ◌≤◌}
use mathlib.Core.Path.{◌≡◌, refl, ap, sym, ◌∙◌}
use mathlib.Core.Bool.{Bool, true, false, cond, not, ◌&&◌}
use mathlib.Core.List.{List}
use mathlib.Core.Option.{Option, none, some}
use native.Mathlib.Omega.{arith}
use lib.Dec.{eqb}
use lib.ListN.{get_or}
use borrow.Author.Tests.{eqb-true, eqb-false, ne_eqb}
use Rattle.sample_rates.specs.Rates.{most_samples}
use Rattle.index_model.specs.Records.{Record, second_of}
use Rattle.index_model.specs.Cells.{
  width,
  sample_offset,
  cell,
  row_of,
  flag,
  is_greatest,
  cell_limit,
  row_within,
  merge_if,
  cell_from,
}
use Rattle.index_model.specs.Ledger.{Ledger, with_entry}
use Rattle.index_model.specs.History.{is_of}
use Rattle.index_model.proofs.Merges.{plain_by, plain-swap, plain-none, plain-sum, exact, fits-before}
use Rattle.index_model.proofs.Limits.{most_records}
use Rattle.index_model.proofs.Rows.{row_for, row-records, row-second}

-- what a number's entry gives to cell j of second s
unfoldable pub share : ℕ → ℕ → Option Record → ℕ
share s j none = 0
share s j (some b) = cond (eqb (second_of b) s) (get_or (row_of b) j 0) 0

-- cell j of second s over the numbers 1 to n
unfoldable pub cell_total : Ledger → ℕ → ℕ → ℕ → ℕ
cell_total L s j zero = 0
cell_total L s j (suc n) = plain_by (is_greatest j) (cell_total L s j n) (share s j (L (suc n)))

-- ## one number's entry

module _ (L : Ledger) (n : ℕ) (held : Option Record) (s j : ℕ) where
  -- numbers below it do not see it
  below : (m : ℕ) → m < n → cell_total (with_entry L n held) s j m ≡ cell_total (with_entry L n none) s j m
  unfolding cell_total
  below zero q = refl
  below (suc m) q =
      let e : eqb (suc m) n ≡ false = ne_eqb (suc m) n (λ z. omega (arith, z)) in
      (λ t. plain_by (is_greatest j) (below m (omega arith) t) (share s j (cond (eqb (suc m) n) held (L (suc m)))))
      ∙ (rw e refl)

  -- the total is that without the number, merged with its share: every other law of the totals follows from this one
  pub one-share : (m : ℕ) → 0 < n → n ≤ m → cell_total (with_entry L n held) s j m
      ≡ plain_by (is_greatest j) (cell_total (with_entry L n none) s j m) (share s j held)
  unfolding cell_total share
  one-share zero p q = absurd (let z : ⊥ = omega arith in z)
  one-share (suc m) p q = by-test (eqb (suc m) n) refl (λ z. one-share m p z)
    where
      g : Bool
      g = is_greatest j

      without : ℕ
      without = cell_total (with_entry L n none) s j m

      by-test : (t : Bool) → eqb (suc m) n ≡ t
          → (n ≤ m → cell_total (with_entry L n held) s j m ≡ plain_by g without (share s j held))
          → plain_by g (cell_total (with_entry L n held) s j m) (share s j (cond t held (L (suc m))))
          ≡ plain_by g (plain_by g without (share s j (cond t none (L (suc m))))) (share s j held)
      by-test true e again =
          (λ t. plain_by g (below m (omega (arith, eqb-true (suc m) n e)) t) (share s j held))
          ∙ sym (λ t. plain_by g (plain-none g without t) (share s j held))
      by-test false e again =
          (λ t. plain_by g (again (let z : suc m ≡ n → ⊥ = eqb-false (suc m) n e in omega (arith, z)) t) (share s j (L (suc m))))
          ∙ plain-swap g without (share s j held) (share s j (L (suc m)))

-- a ledger is itself with a number's own entry put there again
itself : (L : Ledger) (n k : ℕ) → cond (eqb k n) (L n) (L k) ≡ L k
itself L n k = by-test (eqb k n) refl
  where
    by-test : (t : Bool) → eqb k n ≡ t → cond t (L n) (L k) ≡ L k
    by-test true e = ap L (sym (eqb-true k n e))
    by-test false e = refl

pub own-share : (L : Ledger) (n s j m : ℕ) → 0 < n → n ≤ m
    → cell_total L s j m ≡ plain_by (is_greatest j) (cell_total (with_entry L n none) s j m) (share s j (L n))
own-share L n s j m p q = sym (λ t. cell_total (λ (k : ℕ). itself L n k t) s j m) ∙ one-share L n (L n) s j m p q

pub share-none : (s j : ℕ) (held : Option Record) → is_of s held ≡ false → share s j held ≡ 0
unfolding share
share-none s j none e = refl
share-none s j (some b) e = rw e refl

pub share-all : (s j : ℕ) (b : Record) → eqb (second_of b) s ≡ true → share s j (some b) ≡ get_or (row_of b) j 0
unfolding share
share-all s j b e = rw e refl

pub share-count : (s : ℕ) (held : Option Record) → share s 0 held ≡ flag (is_of s held)
unfolding share
share-count s none = refl
share-count s (some b) = λ t. cond (eqb (second_of b) s) (row-records b t) 0

-- a changed entry leaves the totals of a second that neither the old nor the new entry is of
pub stays : (L : Ledger) (n s j m : ℕ) (held : Option Record) → 0 < n → n ≤ m → is_of s (L n) ≡ false → is_of s held ≡ false
    → cell_total (with_entry L n held) s j m ≡ cell_total L s j m
stays L n s j m held p q a b =
    one-share L n held s j m p q
    ∙ ap (λ (x : ℕ). plain_by (is_greatest j) (cell_total (with_entry L n none) s j m) x)
    (share-none s j held b ∙ sym (share-none s j (L n) a))
    ∙ sym (own-share L n s j m p q)

-- ## counts and bounds

pub count-sum : (a b : ℕ) → plain_by (is_greatest 0) a b ≡ a + b
unfolding is_greatest
count-sum a b = plain-sum (is_greatest 0) a b refl

-- the most that a record's row has in a cell: the squares of its samples
abbrev pub row_limit : ℕ
row_limit = sample_offset * sample_offset * most_samples

abbrev pub SmallRows : Ledger → Type 0
SmallRows L = (n : ℕ) (b : Record) → L n ≡ some b → (j : ℕ) → get_or (row_of b) j 0 ≤ row_limit

share-small : (s j : ℕ) (held : Option Record) → ((b : Record) → held ≡ some b → get_or (row_of b) j 0 ≤ row_limit)
    → share s j held ≤ row_limit * share s 0 held
unfolding share
share-small s j none small = omega arith
share-small s j (some b) small = by-test (eqb (second_of b) s)
  where
    by-test : (t : Bool) → cond t (get_or (row_of b) j 0) 0 ≤ row_limit * cond t (get_or (row_of b) 0 0) 0
    by-test true = omega (arith, small b refl, row-records b)
    by-test false = omega arith

bounded : (L : Ledger) → SmallRows L → (s j m : ℕ) → is_greatest j ≡ false → cell_total L s j m ≤ row_limit * cell_total L s 0 m
unfolding cell_total
bounded L small s j zero e = omega arith
bounded L small s j (suc m) e =
    omega (
      arith,
      bounded L small s j m e,
      share-small s j (L (suc m)) (λ b h. small (suc m) b h j),
      plain-sum (is_greatest j)
          (cell_total L s j m) (share s j (L (suc m))) e,
      count-sum (cell_total L s 0 m) (share s 0 (L (suc m))),
    )

-- sums of a full second's records fit a cell
pub sums-fit : (L : Ledger) → SmallRows L → (s j m : ℕ) → cell_total L s 0 m ≤ most_records → is_greatest j ≡ false
    → cell_total L s j m < cell_limit
sums-fit L small s j m h e = omega (arith, bounded L small s j m e)

-- ## the pass over the rows

-- the first R rows are those of the ledger
abbrev pub RowsOf : ℕ → Ledger → List ℕ → Type 0
RowsOf R L rows = (i : ℕ) → i < R → (j : ℕ) → j < width → cell rows i j ≡ get_or (row_for (L (suc i))) j 0

module _ (R : ℕ) (L : Ledger) (rows : List ℕ) (are : RowsOf R L rows) where
  pub within-is : (i s : ℕ) → i < R → row_within rows i s ≡ is_of s (L (suc i))
  unfolding row_within
  within-is i s h = (λ t. not (eqb (are i h 0 (omega arith) t) 0) && eqb (are i h 3 (omega arith) t) s) ∙ by-entry (L (suc i))
    where
      by-entry : (held : Option Record) → (not (eqb (get_or (row_for held) 0 0) 0) && eqb (get_or (row_for held) 3 0) s) ≡ is_of s held
      by-entry none = refl
      by-entry (some b) = λ t. not (eqb (row-records b t) 0) && eqb (row-second b t) s

  one-row : (s j a : ℕ) (held : Option Record) → (is_greatest j ≡ false → plain_by (is_greatest j) a (share s j held) < cell_limit)
      → merge_if (is_of s held) j a (get_or (row_for held) j 0) ≡ plain_by (is_greatest j) a (share s j held)
  unfolding share
  one-row s j a none f = sym (plain-none (is_greatest j) a)
  one-row s j a (some b) f = by-test (eqb (second_of b) s) f
    where
      by-test : (t : Bool) → (is_greatest j ≡ false → plain_by (is_greatest j) a (cond t (get_or (row_of b) j 0) 0) < cell_limit)
          → merge_if t j a (get_or (row_of b) j 0) ≡ plain_by (is_greatest j) a (cond t (get_or (row_of b) j 0) 0)
      by-test true f = exact (is_greatest j) a (get_or (row_of b) j 0) f
      by-test false f = sym (plain-none (is_greatest j) a)

  pub passed : (s j : ℕ) → j < width → (m : ℕ) → m ≤ R → (is_greatest j ≡ false → cell_total L s j m < cell_limit)
      → cell_from rows s j m ≡ cell_total L s j m
  unfolding cell_total cell_from
  passed s j hj zero q f = refl
  passed s j hj (suc m) q f =
      (λ t. merge_if (within-is m s (omega arith) t) j
      (passed s j hj m (omega arith) (fits-before (is_greatest j) (cell_total L s j m) (share s j (L (suc m))) f) t)
      (are m (omega arith) j hj t))
      ∙ one-row s j (cell_total L s j m) (L (suc m)) f
