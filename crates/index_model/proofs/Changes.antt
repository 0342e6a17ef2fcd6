-- An accepted put and an accepted take-out: the cells agree with the ledger again, and which cells are as they were.
-- Assumes nothing.
use Prim.Native.Nat.{ℕ, suc, ◌+◌, ◌-◌, ◌*◌, ◌/◌, ◌<◌, ◌≤◌}
use mathlib.Core.Path.{◌≡◌, refl, ap, sym, ◌∙◌, subst}
use mathlib.Core.Bool.{Bool, true, false, cond}
use mathlib.Core.List.{List}
use mathlib.Core.Option.{Option, none, some}
use native.Mathlib.Omega.{arith}
use lib.Dec.{eqb}
use lib.ListN.{get_or, length}
use borrow.Author.Tests.{eqb-true, eqb-false}
use Rattle.index_model.specs.declared.Opening.{Opening}
use Rattle.index_model.specs.Records.{Record, second_of}
use Rattle.index_model.specs.Cells.{width, cell, block_at, with_block, row_of, is_greatest, cell_limit, merge_by, merged}
use Rattle.index_model.specs.Buffers.{Buffers}
use Rattle.index_model.specs.Opening.{window_place}
use Rattle.index_model.specs.Calls.{full_count, leave, join, seconds_inserted, row_inserted, seconds_removed, row_removed}
use Rattle.index_model.specs.Ledger.{Ledger, with_entry}
use Rattle.index_model.specs.History.{is_of}
use Rattle.index_model.proofs.Blocks.{length-with, elsewhere, at_block, at_other, block-at}
use Rattle.index_model.proofs.Merges.{plain_by, plain-none, exact}
use Rattle.index_model.proofs.Rows.{row_for, row-for-length}
use Rattle.index_model.proofs.Totals.{cell_total, one-share, own-share, share-none, share-all, stays}
use Rattle.index_model.proofs.Sound.{Sound}
use Rattle.index_model.proofs.Limits.{in_window_lem}
use Rattle.index_model.proofs.Seconds.{
  leave_for,
  leave-is,
  length_merged,
  merged-at,
  length-leave,
  leave-frame,
  length-join,
  join-frame,
}
use Rattle.index_model.proofs.Agreement.{
  Regular,
  Agree,
  few-fit,
  inside,
  regular-without,
  regular-with,
  row_fits,
  old_row,
  old-within,
  rows-after,
  left-cells,
}
use Rattle.index_model.proofs.Window.{F, C, R}

-- what holds once number n has another entry: the cells are those of the ledger, and no cell changed but those of the row and
-- of the seconds that the two entries are of
pub record Changed (o : Opening) (L : Ledger) (n : ℕ) (entry : Option Record) (old new : Buffers) : Type 0 where
  pub regular : Regular o (with_entry L n entry)
  pub agree : Agree o (with_entry L n entry) new
  pub rows-length : length new.rows ≡ length old.rows
  pub seconds-length : length new.seconds ≡ length old.seconds
  pub rows : (m : ℕ) → eqb (suc (m / width)) n ≡ false → get_or new.rows m 0 ≡ get_or old.rows m 0
  pub seconds : (m : ℕ) → is_of (F o + m / width) (L n) ≡ false → is_of (F o + m / width) entry ≡ false
      → get_or new.seconds m 0 ≡ get_or old.seconds m 0

module _ (o : Opening) (L : Ledger) (c : Buffers) (regular : Regular o L) (agree : Agree o L c) (n : ℕ) (p : 0 < n)
    (q : n ≤ R o) where
  -- the rows with the number's entry changed, and the seconds once the old entry has left
  abbrev rows_with : Option Record → List ℕ
  rows_with held = with_block c.rows (n - 1) (row_for held)

  abbrev seconds_left : Option Record → List ℕ
  seconds_left held = leave_for o (rows_with held) (L n) c.seconds

  left_is : (held : Option Record) → leave o (rows_with held) (cell c.rows (n - 1) 0) (cell c.rows (n - 1) 3) c.seconds
      ≡ seconds_left held
  left_is held =
      (λ t. leave o (rows_with held) (old_row o L c agree n p q 0 (omega arith) t) (old_row o L c agree n p q 3 (omega arith) t)
      c.seconds)
      ∙ leave-is o (rows_with held) (L n) c.seconds (inside o L regular n p q)

  left-length : (held : Option Record) → length (seconds_left held) ≡ length c.seconds
  left-length held = length-leave o (rows_with held) (L n) c.seconds (inside o L regular n p q) agree.seconds-long

  left-are : (held : Option Record) → Regular o (with_entry L n held) → (k : ℕ) → k < C o → (j : ℕ) → j < width
      → cell (seconds_left held) k j
      ≡ cond (is_of (F o + k) (L n)) (cell_total (with_entry L n held) (F o + k) j (R o)) (cell_total L (F o + k) j (R o))
  left-are held g =
      left-cells o L c agree n p q (L n) (inside o L regular n p q) (with_entry L n held) g (rows_with held)
      (rows-after o L c agree n p q held)

  -- a second that the new entry is not of is right once the old entry has left
  settled : (held : Option Record) (k j : ℕ) → is_of (F o + k) held ≡ false → (t : Bool) → is_of (F o + k) (L n) ≡ t
      → cond t (cell_total (with_entry L n held) (F o + k) j (R o)) (cell_total L (F o + k) j (R o))
      ≡ cell_total (with_entry L n held) (F o + k) j (R o)
  settled held k j e true et = refl
  settled held k j e false et = sym (stays L n (F o + k) j (R o) held p q et e)

  rows-length : (held : Option Record) → length (rows_with held) ≡ length c.rows
  rows-length held = length-with c.rows (n - 1) (row_for held) (row_fits o L c agree n p q) (row-for-length held)

  rows_frame : (held : Option Record) (m : ℕ) → eqb (suc (m / width)) n ≡ false → get_or (rows_with held) m 0 ≡ get_or c.rows m 0
  rows_frame held m e =
      elsewhere c.rows (n - 1) (row_for held) (row_fits o L c agree n p q) (row-for-length held) m
      (λ z. eqb-false (suc (m / width)) n e (omega (arith, z)))

  left-frame : (held : Option Record) (m : ℕ) → is_of (F o + m / width) (L n) ≡ false
      → get_or (seconds_left held) m 0 ≡ get_or c.seconds m 0
  left-frame held m e = leave-frame o (rows_with held) (L n) c.seconds (inside o L regular n p q) agree.seconds-long m e

  -- ## take out

  taken_is : seconds_removed o (n - 1) c ≡ seconds_left none
  unfolding seconds_removed
  taken_is = left_is none

  taken-agrees : Agree o (with_entry L n none) (row_removed o (n - 1) c)
  taken-agrees =
      record {
        rows_long = omega (arith, agree.rows_long, rows-length none);
        seconds-long = omega (arith, agree.seconds-long, ap length taken_is, left-length none);
        rows_are = rows-after o L c agree n p q none;
        seconds-are =
            λ k hk j hj.
            (λ t. cell (taken_is t) k j)
            ∙ left-are none (regular-without o L regular n p q) k hk j hj
            ∙ settled none k j refl (is_of (F o + k) (L n)) refl;
      }

  pub taken-changed : Changed o L n none c (row_removed o (n - 1) c)
  taken-changed =
      record {
        regular = regular-without o L regular n p q;
        agree = taken-agrees;
        rows-length = rows-length none;
        seconds-length = ap length taken_is ∙ left-length none;
        rows = rows_frame none;
        seconds = λ m e e'. (λ t. get_or (taken_is t) m 0) ∙ left-frame none m e;
      }

  -- ## put

  module _ (b : Record) (sound : Sound o b) (room : cell_total (with_entry L n none) (second_of b) 0 (R o) < full_count o) where
    abbrev s : ℕ
    s = second_of b

    abbrev new : Ledger
    new = with_entry L n (some b)

    new-regular : Regular o new
    new-regular = regular-with o L regular n p q b sound room

    put_is : seconds_inserted o (n - 1) s (row_of b) c ≡ join (is_of s (L n)) (seconds_left (some b)) (window_place o s) (row_of b)
    unfolding seconds_inserted
    put_is = λ t. join (old-within o L c agree n p q s t) (left_is (some b) t) (window_place o s) (row_of b)

    long : width * C o ≤ length (seconds_left (some b))
    long = omega (arith, agree.seconds-long, left-length (some b))

    w : (F o ≤ s) × (s < F o + C o)
    w = in_window_lem o s sound.window

    -- the second that is joined: its other records' totals, merged with the row
    added : (k j : ℕ) → k < C o → j < width → eqb s (F o + k) ≡ true → is_of (F o + k) (L n) ≡ false
        → cell (with_block (seconds_left (some b)) (window_place o s)
        (merged (block_at (seconds_left (some b)) (window_place o s)) (row_of b)))
        k j ≡ cell_total new (F o + k) j (R o)
    added k j hk hj e e' =
        (λ t. cell (with_block seconds (window_place o s) (merged part (row_of b))) (z t) j)
        ∙ at_block seconds (window_place o s) (merged part (row_of b)) (omega (arith, w.0, w.1, long))
        (length_merged part (row_of b)) j hj
        ∙ merged-at part (row_of b) j hj
        ∙ (λ t. merge_by g (before t) x)
        ∙ exact g others x (λ h. subst (λ (y : ℕ). y < cell_limit) is (few-fit o new new-regular (F o + k) j h))
        ∙ sym is
      where
        seconds : List ℕ
        seconds = seconds_left (some b)

        part : List ℕ
        part = block_at seconds (window_place o s)

        g : Bool
        g = is_greatest j

        x : ℕ
        x = get_or (row_of b) j 0

        others : ℕ
        others = cell_total (with_entry L n none) (F o + k) j (R o)

        z : k ≡ window_place o s
        z = omega (arith, eqb-true s (F o + k) e)

        before : get_or part j 0 ≡ others
        before =
            block-at seconds (window_place o s) j hj
            ∙ (λ t. cell seconds (sym z t) j)
            ∙ left-are (some b) new-regular k hk j hj
            ∙ (λ t. cond (e' t) (cell_total new (F o + k) j (R o)) (cell_total L (F o + k) j (R o)))
            ∙ own-share L n (F o + k) j (R o) p q
            ∙ (λ t. plain_by g others (share-none (F o + k) j (L n) e' t))
            ∙ plain-none g others

        is : cell_total new (F o + k) j (R o) ≡ plain_by g others x
        is = one-share L n (some b) (F o + k) j (R o) p q ∙ (λ t. plain_by g others (share-all (F o + k) j b e t))

    put-seconds : (k : ℕ) → k < C o → (j : ℕ) → j < width
        → cell (join (is_of s (L n)) (seconds_left (some b)) (window_place o s) (row_of b)) k j ≡ cell_total new (F o + k) j (R o)
    unfolding join
    put-seconds k hk j hj = by_tests (is_of s (L n)) refl (eqb s (F o + k)) refl
      where
        seconds : List ℕ
        seconds = seconds_left (some b)

        here : (t : Bool) → eqb s (F o + k) ≡ true → is_of s (L n) ≡ t → is_of (F o + k) (L n) ≡ t
        here t e e' = (λ i. is_of (sym (eqb-true s (F o + k) e) i) (L n)) ∙ e'

        by_tests : (t : Bool) → is_of s (L n) ≡ t → (u : Bool) → eqb s (F o + k) ≡ u
            → cell (cond t seconds (with_block seconds (window_place o s)
            (merged (block_at seconds (window_place o s)) (row_of b)))) k j
            ≡ cell_total new (F o + k) j (R o)
        by_tests true et true eu =
            left-are (some b) new-regular k hk j hj
            ∙ (λ i. cond (here true eu et i) (cell_total new (F o + k) j (R o)) (cell_total L (F o + k) j (R o)))
        by_tests true et false eu = left-are (some b) new-regular k hk j hj ∙ settled (some b) k j eu (is_of (F o + k) (L n)) refl
        by_tests false et true eu = added k j hk hj eu (here false eu et)
        by_tests false et false eu =
            at_other seconds (window_place o s) (merged (block_at seconds (window_place o s)) (row_of b))
            (omega (arith, w.0, w.1, long))
            (length_merged (block_at seconds (window_place o s)) (row_of b)) k j hj
            (λ z. eqb-false s (F o + k) eu (omega (arith, z, w.0)))
            ∙ left-are (some b) new-regular k hk j hj
            ∙ settled (some b) k j eu (is_of (F o + k) (L n)) refl

    put-length : length (row_inserted o (n - 1) s (row_of b) c).seconds ≡ length c.seconds
    put-length =
        ap length put_is ∙ length-join o s sound.window (row_of b) (seconds_left (some b)) long (is_of s (L n))
        ∙ left-length (some b)

    put-agrees : Agree o new (row_inserted o (n - 1) s (row_of b) c)
    put-agrees =
        record {
          rows_long = omega (arith, agree.rows_long, rows-length (some b));
          seconds-long = omega (arith, agree.seconds-long, put-length);
          rows_are = rows-after o L c agree n p q (some b);
          seconds-are = λ k hk j hj. (λ t. cell (put_is t) k j) ∙ put-seconds k hk j hj;
        }

    pub put-changed : Changed o L n (some b) c (row_inserted o (n - 1) s (row_of b) c)
    put-changed =
        record {
          regular = new-regular;
          agree = put-agrees;
          rows-length = rows-length (some b);
          seconds-length = put-length;
          rows = rows_frame (some b);
          seconds =
              λ m e e'.
              (λ t. get_or (put_is t) m 0)
              ∙ join-frame o s sound.window (row_of b) (seconds_left (some b)) long (is_of s (L n)) m e'
              ∙ left-frame (some b) m e;
        }
