-- Where the cells agree with the ledger, each call is refused as the ledger refuses it, and what is accepted may be done; a
-- question and the test answer as the ledger. Assumes nothing.
use Prim.Native.Nat.{ℕ, suc, ◌+◌, ◌-◌, ◌<◌, ◌≤◌}
use mathlib.Core.Path.{◌≡◌, refl, ap, sym, ◌∙◌}
use mathlib.Core.Bool.{Bool, true, false, cond, not, ◌||◌}
use mathlib.Core.List.{List, [], ◌∷◌}
use mathlib.Core.Option.{Option, none, some}
use mathlib.Core.Logic.{⊎_elim}
use native.Mathlib.Omega.{arith}
use lib.Dec.{eqb, leb}
use lib.ListN.{get_or, length}
use borrow.Author.Tests.{le-leb, lt-leb, leb-false, not-false}
use Rattle.lists.proofs.Order.{le-or-lt}
use Rattle.answers.specs.Answer.{accepted, unless}
use Rattle.answers.specs.Refusal.{Check, ◌when◌, first, ◌then◌}
use Rattle.answers.proofs.Refusals.{then-none, then-zero, none-applies}
use Rattle.index_model.specs.declared.Opening.{Opening}
use Rattle.index_model.specs.Records.{refusal_of, Record, number_of, second_of}
use Rattle.index_model.specs.Second.{no_second}
use Rattle.index_model.specs.Cells.{cell, block_at, flag, row_within}
use Rattle.index_model.specs.Buffers.{Buffers}
use Rattle.index_model.specs.Opening.{limits_wrong, held_wrong, opening_refusal, other_reel, is_outside, in_window, window_place}
use Rattle.index_model.specs.Calls.{
  full_count,
  is_full,
  insert_refusal,
  remove_refusal,
  query_refusal,
  query_answer,
  second_shown,
  is_consistent,
  consistency_answer,
}
use Rattle.index_model.specs.Ledger.{
  Ledger,
  with_entry,
  is_held,
  records_of,
  per_second,
  ledger_full,
  ledger_insert,
  ledger_remove,
  ledger_query,
  ledger_second,
}
use Rattle.index_model.proofs.Blocks.{block-cells}
use Rattle.index_model.proofs.Rows.{row_for, row-records, row-second}
use Rattle.index_model.proofs.Totals.{share, cell_total, share-count, passed}
use Rattle.index_model.proofs.Sound.{Sound}
use Rattle.index_model.proofs.Measures.{measured, measures-records}
use Rattle.index_model.proofs.Decoded.{second-decoded}
use Rattle.index_model.proofs.Limits.{in_window_lem, in-range, same-rate, opening-fine}
use Rattle.index_model.proofs.Consistent.{at_place, tested}
use Rattle.index_model.proofs.Agreement.{Regular, Agree, few-fit, count-own, regular-without, old_row, old-within}
use Rattle.index_model.proofs.Window.{F, C, R}

leb-same : (a b c d : ℕ) → (a ≤ b → c ≤ d) → (b < a → d < c) → leb a b ≡ leb c d
leb-same a b c d f g =
    ⊎_elim (λ p. le-leb a b p ∙ sym (le-leb c d (f p))) (λ p. lt-leb a b p ∙ sym (lt-leb c d (g p))) (le-or-lt a b)

-- ## by the ledger alone

module _ (o : Opening) (L : Ledger) where
  -- what an accepted put gives
  pub record Entering (b : Record) : Type 0 where
    pub sound : Sound o b
    pub above : 0 < number_of b
    pub below : number_of b ≤ R o
    pub room : length (records_of (with_entry L (number_of b) none) (second_of b) (R o)) < per_second o

  pub put-accepted : (b : Record) → ledger_insert o L b ≡ 0 → Entering b
  unfolding ledger_insert ledger_full
  put-accepted b e =
      record {
        sound =
            record {
              accepted = both.0;
              edition = (same-rate o b (at 0)).0;
              rate = (same-rate o b (at 0)).1;
              window = not-false (in_window o (second_of b)) (at 2);
            };
        above = (in-range o (number_of b) (at 1)).0;
        below = (in-range o (number_of b) (at 1)).1;
        room = leb-false _ _ (at 3);
      }
    where
      checks : List Check
      checks =
          15 when other_reel o b
          ∷ 16 when is_outside o (number_of b)
          ∷ 17 when not (in_window o (second_of b))
          ∷ 18 when ledger_full o L (number_of b) (second_of b)
          ∷ []

      both : (refusal_of b ≡ 0) × (first checks ≡ 0)
      both = then-zero (refusal_of b) (first checks) e

      at : (k : ℕ) → (get_or checks k (0 when false)).applies ≡ false
      at k = none-applies checks k tt both.1

  pub take-accepted : (n : ℕ) → ledger_remove o L n ≡ 0 → (0 < n) × (n ≤ R o)
  unfolding ledger_remove
  take-accepted n e = in-range o n (none-applies (16 when is_outside o n ∷ 19 when not (is_held (L n)) ∷ []) 0 tt e)

-- ## by the cells

module _ (o : Opening) (fine : limits_wrong o || held_wrong o ≡ false) (L : Ledger) (c : Buffers) (regular : Regular o L)
    (agree : Agree o L c) where
  pub opening-accepted : opening_refusal o c ≡ 0
  opening-accepted = opening-fine o c fine agree.rows_long agree.seconds-long

  -- the records of other numbers in a second
  pub others-count : (n s : ℕ) → 0 < n → n ≤ R o → length (records_of (with_entry L n none) s (R o))
      ≡ cell_total (with_entry L n none) s 0 (R o)
  others-count n s p q = sym (measured (measures-records o) (with_entry L n none) (regular-without o L regular n p q).sound s
      (R o))

  full_is : (n s : ℕ) → is_outside o n ≡ false → not (in_window o s) ≡ false → is_full o (n - 1) s c ≡ ledger_full o L n s
  unfolding is_full ledger_full
  full_is n s e e' =
      (λ t. leb (full_count o + own t) (count t))
      ∙ leb-same (full_count o + share s 0 (L n)) (cell_total L s 0 (R o)) (per_second o)
      (length (records_of (with_entry L n none) s (R o)))
      (λ h. omega (arith, count-own o L regular n range.0 range.1 s, others-count n s range.0 range.1))
      (λ h. omega (arith, count-own o L regular n range.0 range.1 s, others-count n s range.0 range.1))
    where
      range : (0 < n) × (n ≤ R o)
      range = in-range o n e

      w : (F o ≤ s) × (s < F o + C o)
      w = in_window_lem o s (not-false (in_window o s) e')

      count : cell c.seconds (window_place o s) 0 ≡ cell_total L s 0 (R o)
      count =
          agree.seconds-are (window_place o s) (omega (arith, w.0, w.1)) 0 (omega arith)
          ∙ (λ t. cell_total L ((let z : F o + (s - F o) ≡ s = omega (arith, w.0) in z) t) 0 (R o))

      own : flag (row_within c.rows (n - 1) s) ≡ share s 0 (L n)
      own = (λ t. flag (old-within o L c agree n range.0 range.1 s t)) ∙ sym (share-count s (L n))

  pub put-judged : (b : Record) → insert_refusal o b c ≡ ledger_insert o L b
  unfolding insert_refusal ledger_insert
  put-judged b =
      ap (λ (x : ℕ). refusal_of b then x)
      (then-none _ _ opening-accepted
      ∙ ap (λ (x : ℕ). cond (other_reel o b) 15 x)
      (by_tests (is_outside o (number_of b)) refl (not (in_window o (second_of b))) refl))
    where
      by_tests : (t : Bool) → is_outside o (number_of b) ≡ t → (u : Bool) → not (in_window o (second_of b)) ≡ u
          → first (16 when t ∷ 17 when u ∷ 18 when is_full o (number_of b - 1) (second_of b) c ∷ [])
          ≡ first (16 when t ∷ 17 when u ∷ 18 when ledger_full o L (number_of b) (second_of b) ∷ [])
      by_tests true et u eu = refl
      by_tests false et true eu = refl
      by_tests false et false eu = λ i. cond (full_is (number_of b) (second_of b) et eu i) 18 0

  pub take-judged : (n : ℕ) → remove_refusal o n c ≡ ledger_remove o L n
  unfolding remove_refusal ledger_remove
  take-judged n = then-none _ _ opening-accepted ∙ by-test (is_outside o n) refl
    where
      by-entry : (held : Option Record) → eqb (get_or (row_for held) 0 0) 0 ≡ not (is_held held)
      by-entry none = refl
      by-entry (some b) = λ t. eqb (row-records b t) 0

      by-test : (t : Bool) → is_outside o n ≡ t → first (16 when t ∷ 19 when eqb (cell c.rows (n - 1) 0) 0 ∷ [])
          ≡ first (16 when t ∷ 19 when not (is_held (L n)) ∷ [])
      by-test true et = refl
      by-test false et =
          let range = in-range o n et in
          λ i. cond (((λ t. eqb (old_row o L c agree n range.0 range.1 0 (omega arith) t) 0) ∙ by-entry (L n)) i) 19 0

  -- ## a question

  -- what the cells of a second of the window say
  pub shown-is : (s : ℕ) → in_window o s ≡ true → second_shown o (block_at c.seconds (window_place o s)) ≡ ledger_second o L s
  shown-is s e =
      ap (second_shown o)
      (block-cells c.seconds (window_place o s) (omega (arith, w.0, w.1, agree.seconds-long))
      (λ (j : ℕ). cell_total L s j (R o))
      (λ j h. agree.seconds-are (window_place o s) (omega (arith, w.0, w.1)) j h ∙ (λ t. cell_total L (z t) j (R o))))
      ∙ second-decoded o L regular.sound s
    where
      w : (F o ≤ s) × (s < F o + C o)
      w = in_window_lem o s e

      z : F o + (s - F o) ≡ s
      z = omega (arith, w.0)

  pub ask-answered : (s : ℕ) → query_answer o s c ≡ ledger_query o L s
  unfolding query_answer query_refusal ledger_query
  ask-answered s =
      ap (λ (x : ℕ). unless x no_second (second_shown o (block_at c.seconds (window_place o s)))) (then-none _ _ opening-accepted)
      ∙ by-test (in_window o s) refl
    where
      by-test : (t : Bool) → in_window o s ≡ t
          → unless (first (17 when not t ∷ [])) no_second (second_shown o (block_at c.seconds (window_place o s)))
          ≡ unless (first (17 when not t ∷ [])) no_second (ledger_second o L s)
      by-test true e = λ i. accepted (shown-is s e i)
      by-test false e = refl

  -- ## the test

  held-inside : (i : ℕ) → i < R o → (cell c.rows i 0 ≡ 0 → ⊥)
      → (F o ≤ cell c.rows i 3) × (cell c.rows i 3 < F o + C o)
  held-inside i q not-empty =
      by-entry (L (suc i)) (regular.sound (suc i)) (agree.rows_are i q 0 (omega arith)) (agree.rows_are i q 3 (omega arith))
    where
      by-entry : (held : Option Record) → ((b : Record) → held ≡ some b → Sound o b)
          → cell c.rows i 0 ≡ get_or (row_for held) 0 0 → cell c.rows i 3 ≡ get_or (row_for held) 3 0
          → (F o ≤ cell c.rows i 3) × (cell c.rows i 3 < F o + C o)
      by-entry none h e s = absurd (not-empty e)
      by-entry (some b) h e s = in_window_lem o (cell c.rows i 3) (ap (in_window o) (s ∙ row-second b) ∙ (h b refl).window)

  pub consistent : is_consistent o c ≡ true
  consistent =
      tested o c
      (record {
        rows_inside_lem = λ n p q. held-inside (n - 1) (omega arith);
        seconds-right = λ s p q j h.
            agree.seconds-are (s - F o) (omega arith) j h
            ∙ sym (passed (R o) L c.rows agree.rows_are (F o + (s - F o)) j h (R o) (omega arith)
            (few-fit o L regular (F o + (s - F o)) j))
            ∙ at_place o c s p j;
      })

  pub test-answered : consistency_answer o c ≡ accepted true
  unfolding consistency_answer
  test-answered = λ t. unless (opening-accepted t) false (consistent t)
