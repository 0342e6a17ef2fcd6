-- The invariant of every history: the ledger is regular, and the cells agree with it. Here: that it outlives an entry
-- replaced or removed. Assumes nothing.
use Prim.Native.Nat.{ℕ, suc, ◌+◌, ◌-◌, ◌*◌, ◌<◌, ◌≤◌}
use mathlib.Core.Path.{◌≡◌, refl, ◌∙◌, subst}
use mathlib.Core.Bool.{Bool, true, false, cond}
use mathlib.Core.List.{List}
use mathlib.Core.Option.{Option, none, some}
use native.Mathlib.Omega.{arith}
use lib.Dec.{eqb}
use lib.ListN.{get_or, length}
use borrow.Author.Tests.{eqb-true, eqb-false}
use Rattle.index_model.specs.declared.Opening.{Opening}
use Rattle.index_model.specs.Records.{Record, second_of}
use Rattle.index_model.specs.Cells.{width, cell, with_block, is_greatest, cell_limit, row_within, second_from}
use Rattle.index_model.specs.Buffers.{Buffers}
use Rattle.index_model.specs.Opening.{window_place}
use Rattle.index_model.specs.Calls.{full_count}
use Rattle.index_model.specs.Ledger.{Ledger, with_entry}
use Rattle.index_model.specs.History.{is_of}
use Rattle.index_model.proofs.Blocks.{at_block, at_other}
use Rattle.index_model.proofs.Rows.{row_for, row-records, row-for-length}
use Rattle.index_model.proofs.Totals.{
  share,
  cell_total,
  one-share,
  own-share,
  share-none,
  share-all,
  count-sum,
  sums-fit,
  RowsOf,
  within-is,
  passed,
}
use Rattle.index_model.proofs.Sound.{Sound, SoundLedger, small-rows}
use Rattle.index_model.proofs.Limits.{in_window_lem, full-most}
use Rattle.index_model.proofs.Seconds.{Inside, leave_for, length-second, second_at}
use Rattle.index_model.proofs.Window.{F, C, R}

module _ (o : Opening) where
  -- no second has more than L records, and each record is one that the index may hold
  pub record Regular (L : Ledger) : Type 0 where
    pub few : (s : ℕ) → cell_total L s 0 (R o) ≤ full_count o
    pub sound : SoundLedger o L

  -- the rows are those of the ledger's records, and the cells of each second those of its records
  pub record Agree (L : Ledger) (c : Buffers) : Type 0 where
    pub rows_long : width * R o ≤ length c.rows
    pub seconds-long : width * C o ≤ length c.seconds
    pub rows_are : RowsOf (R o) L c.rows
    pub seconds-are : (k : ℕ) → k < C o → (j : ℕ) → j < width → cell c.seconds k j ≡ cell_total L (F o + k) j (R o)

  pub few-fit : (L : Ledger) → Regular L → (s j : ℕ) → is_greatest j ≡ false → cell_total L s j (R o) < cell_limit
  few-fit L g s j e = sums-fit L (small-rows g.sound) s j (R o) (omega (arith, g.few s, full-most o)) e

  -- a pass over the rows gives a second's cells
  pub pass-is : (L : Ledger) → Regular L → (rows : List ℕ) → RowsOf (R o) L rows → (s j : ℕ) → j < width
      → get_or (second_from rows s (R o)) j 0 ≡ cell_total L s j (R o)
  pass-is L g rows are s j h = second_at rows s (R o) j h ∙ passed (R o) L rows are s j h (R o) (omega arith) (few-fit L g s j)

  -- ## the ledger with one entry changed

  entry-cases : (L : Ledger) (n : ℕ) (held : Option Record) → SoundLedger o L → ((b : Record) → held ≡ some b → Sound o b)
      → SoundLedger o (with_entry L n held)
  entry-cases L n held g h m b = by-test (eqb m n)
    where
      by-test : (t : Bool) → cond t held (L m) ≡ some b → Sound o b
      by-test true e = h b e
      by-test false e = g m b e

  module _ (L : Ledger) (g : Regular L) (n : ℕ) (p : 0 < n) (q : n ≤ R o) where
    pub inside : Inside o (L n)
    inside b e = (g.sound n b e).window

    pub count-own : (s : ℕ) → cell_total L s 0 (R o) ≡ cell_total (with_entry L n none) s 0 (R o) + share s 0 (L n)
    count-own s = own-share L n s 0 (R o) p q ∙ count-sum (cell_total (with_entry L n none) s 0 (R o)) (share s 0 (L n))

    pub regular-without : Regular (with_entry L n none)
    regular-without =
        record {
          few = λ s. omega (arith, count-own s, g.few s);
          sound = entry-cases L n none g.sound (λ b e. absurd (let z : ◌≡◌ {A = ℕ} 0 1 = cc in omega arith));
        }

    pub regular-with : (b : Record) → Sound o b → cell_total (with_entry L n none) (second_of b) 0 (R o) < full_count o
        → Regular (with_entry L n (some b))
    regular-with b h room =
        record {
          few = λ s. by-test s (eqb (second_of b) s) refl;
          sound = entry-cases L n (some b) g.sound (λ x e. subst (Sound o) (let z : b ≡ x = cc in z) h);
        }
      where
        count : (s : ℕ) → cell_total (with_entry L n (some b)) s 0 (R o)
            ≡ cell_total (with_entry L n none) s 0 (R o) + share s 0 (some b)
        count s = one-share L n (some b) s 0 (R o) p q ∙ count-sum (cell_total (with_entry L n none) s 0 (R o)) (share s 0 (some b))

        by-test : (s : ℕ) (t : Bool) → eqb (second_of b) s ≡ t → cell_total (with_entry L n (some b)) s 0 (R o) ≤ full_count o
        by-test s true e =
            omega (
              arith,
              count s,
              share-all s 0 b e,
              row-records b,
              subst
                  (λ (x : ℕ). cell_total (with_entry L n none) x 0 (R o) < full_count o) (eqb-true (second_of b) s e) room,
            )
        by-test s false e = omega (arith, count s, share-none s 0 (some b) e, regular-without.few s)

  -- ## the cells with one row changed

  module _ (L : Ledger) (c : Buffers) (agree : Agree L c) (n : ℕ) (p : 0 < n) (q : n ≤ R o) where
    pub row_fits : width * (n - 1) + width ≤ length c.rows
    row_fits = omega (arith, agree.rows_long)

    -- the row of the number as it stands
    pub old_row : (j : ℕ) → j < width → cell c.rows (n - 1) j ≡ get_or (row_for (L n)) j 0
    old_row j h =
        let z : suc (n - 1) ≡ n = omega arith in
        agree.rows_are (n - 1) (omega arith) j h ∙ (λ t. get_or (row_for (L (z t))) j 0)

    pub old-within : (s : ℕ) → row_within c.rows (n - 1) s ≡ is_of s (L n)
    old-within s =
        let z : suc (n - 1) ≡ n = omega arith in
        within-is (R o) L c.rows agree.rows_are (n - 1) s (omega arith) ∙ (λ t. is_of s (L (z t)))

    -- and replaced
    pub rows-after : (held : Option Record) → RowsOf (R o) (with_entry L n held) (with_block c.rows (n - 1) (row_for held))
    rows-after held i hi j hj = by-test (eqb (suc i) n) refl
      where
        by-test : (t : Bool) → eqb (suc i) n ≡ t → cell (with_block c.rows (n - 1) (row_for held)) i j
            ≡ get_or (row_for (cond t held (L (suc i)))) j 0
        by-test true e =
            let z : i ≡ n - 1 = omega (arith, eqb-true (suc i) n e) in
            (λ t. cell (with_block c.rows (n - 1) (row_for held)) (z t) j)
            ∙ at_block c.rows (n - 1) (row_for held) row_fits (row-for-length held) j hj
        by-test false e =
            at_other c.rows (n - 1) (row_for held) row_fits (row-for-length held) i j hj
            (λ z. eqb-false (suc i) n e (omega (arith, z)))
            ∙ agree.rows_are i hi j hj

    -- the second that is left, worked out anew, and every other second as it was
    pub left-cells : (held : Option Record) → Inside o held → (L' : Ledger) → Regular L' → (rows : List ℕ)
        → RowsOf (R o) L' rows
        → (k : ℕ) → k < C o → (j : ℕ) → j < width → cell (leave_for o rows held c.seconds) k j
        ≡ cond (is_of (F o + k) held) (cell_total L' (F o + k) j (R o)) (cell_total L (F o + k) j (R o))
    left-cells none h L' g rows are k hk j hj = agree.seconds-are k hk j hj
    left-cells (some b) h L' g rows are k hk j hj = by-test (eqb (second_of b) (F o + k)) refl
      where
        s : ℕ
        s = second_of b

        w : (F o ≤ s) × (s < F o + C o)
        w = in_window_lem o s (h b refl)

        room : width * window_place o s + width ≤ length c.seconds
        room = omega (arith, w.0, w.1, agree.seconds-long)

        by-test : (t : Bool) → eqb s (F o + k) ≡ t → cell (with_block c.seconds (window_place o s) (second_from rows s (R o))) k j
            ≡ cond t (cell_total L' (F o + k) j (R o)) (cell_total L (F o + k) j (R o))
        by-test true e =
            let z : k ≡ s - F o = omega (arith, eqb-true s (F o + k) e) in
            (λ t. cell (with_block c.seconds (window_place o s) (second_from rows s (R o))) (z t) j)
            ∙ at_block c.seconds (window_place o s) (second_from rows s (R o)) room (length-second rows s (R o)) j hj
            ∙ pass-is L' g rows are s j hj
            ∙ (λ t. cell_total L' (eqb-true s (F o + k) e t) j (R o))
        by-test false e =
            at_other c.seconds (window_place o s) (second_from rows s (R o)) room (length-second rows s (R o)) k j hj
            (λ z. eqb-false s (F o + k) e (omega (arith, z, w.0)))
            ∙ agree.seconds-are k hk j hj
