-- The consistency test says yes exactly when no held row's second lies outside the window and the second cells are those that
-- the rows give. FORMAT, "The index of seconds". That is said here of any opening's value and of any cells whatever, left by a
-- history or not, and apart from the test's own loops: of every number from 1 to R, and of every cell of every second of the
-- window. First what is claimed, then the proof. Assumes nothing.
use Prim.Native.Nat.{ℕ, zero, suc, ◌+◌, ◌-◌, ◌*◌, ◌%◌, ◌^◌, ◌<◌, ◌≤◌, max}
use mathlib.Core.Path.{◌≡◌, refl, ap, sym, ◌∙◌, subst}
use mathlib.Core.Bool.{Bool, true, false, cond, not, ◌&&◌, ◌||◌}
use mathlib.Core.List.{List}
use mathlib.Core.Logic.{⊎_elim}
use native.Mathlib.Omega.{arith}
use lib.Dec.{eqb, ltb}
use lib.ListN.{get_or}
use borrow.Author.Tests.{eq-eqb, ne_eqb, eqb-true, eqb-false, lt-ltb, le-ltb}
use Rattle.lists.proofs.Order.{le-or-lt}
use Rattle.answers.specs.Answer.{accepted, refused}
use Rattle.answers.proofs.Refusals.{unless-none, unless-some, given-value}
use Rattle.index_model.specs.declared.Opening.{Opening}
use Rattle.index_model.specs.Cells.{width, cell_limit, cell, is_greatest, merge_by, row_within, merge_if, cell_from}
use Rattle.index_model.specs.Buffers.{Buffers}
use Rattle.index_model.specs.Opening.{opening_refusal, in_window}
use Rattle.index_model.specs.Calls.{rows_inside, cells_right, seconds_right, is_consistent, consistency_answer}
use Rattle.index_model.proofs.Limits.{in_window_lem, window-in}
use Rattle.index_model.proofs.Loops.{both_true, each_of, all_of}
use Rattle.index_model.proofs.Window.{F, C, R}

-- ## what is claimed

-- cell j of the row of number n, one of the `width` cells (24) that each number has: cell 0 is not 0 where a record is held, and
-- cell 3 is its second
abbrev pub row_cell : List ℕ → ℕ → ℕ → ℕ
row_cell rows n j = get_or rows (width * (n - 1) + j) 0

-- cell j of second s, which has as many; the window starts with second F
abbrev pub second_cell : List ℕ → ℕ → ℕ → ℕ → ℕ
second_cell seconds F s j = get_or seconds (width * (s - F) + j) 0

-- what number n gives for cell j of second s: its own cell j, if it is held and of that second
abbrev pub number_gives : List ℕ → ℕ → ℕ → ℕ → ℕ
number_gives rows s j n = cond (not (eqb (row_cell rows n 0) 0) && eqb (row_cell rows n 3) s) (row_cell rows n j) 0

-- the sum, and the greatest, of what the numbers 1 to n give
unfoldable pub sum_to : (ℕ → ℕ) → ℕ → ℕ
sum_to gives zero = 0
sum_to gives (suc n) = sum_to gives n + gives (suc n)

unfoldable pub greatest_to : (ℕ → ℕ) → ℕ → ℕ
greatest_to gives zero = 0
greatest_to gives (suc n) = max (greatest_to gives n) (gives (suc n))

-- what the rows of the numbers 1 to R give for cell j of second s: a sum modulo 2^32 where j leaves 0, 1 or 2 when divided by 5,
-- and a greatest where it leaves 3 or 4
abbrev pub rows_give : List ℕ → ℕ → ℕ → ℕ → ℕ
rows_give rows R s j =
    cond (ltb (j % 5) 3) (sum_to (number_gives rows s j) R % (2 ^ 32)) (greatest_to (number_gives rows s j) R)

pub record Consistent (o : Opening) (c : Buffers) : Type 0 where
  -- no held row's second lies outside the window
  pub rows_inside_lem : (n : ℕ) → 1 ≤ n → n ≤ R o → (row_cell c.rows n 0 ≡ 0 → ⊥)
      → (F o ≤ row_cell c.rows n 3) × (row_cell c.rows n 3 < F o + C o)
  -- every cell of every second of the window is what the rows give
  pub seconds-right : (s : ℕ) → F o ≤ s → s < F o + C o → (j : ℕ) → j < width
      → second_cell c.seconds (F o) s j ≡ rows_give c.rows (R o) s j

-- what the test answers: the refusal, 13 or 14, where there is one; else yes if the cells are so and no if they are not; and
-- yes in no other case
pub record TestAnswers (o : Opening) (c : Buffers) : Type 0 where
  pub refuses : (opening_refusal o c ≡ 0 → ⊥) → consistency_answer o c ≡ refused false (opening_refusal o c)
  pub says-yes : opening_refusal o c ≡ 0 → Consistent o c → consistency_answer o c ≡ accepted true
  pub says-no : opening_refusal o c ≡ 0 → (Consistent o c → ⊥) → consistency_answer o c ≡ accepted false
  pub yes-only : consistency_answer o c ≡ accepted true → (opening_refusal o c ≡ 0) × Consistent o c

-- ## what the rows give, by the pass over the rows that the test makes

module _ (rows : List ℕ) (s j : ℕ) where
  abbrev gives : ℕ → ℕ
  gives = number_gives rows s j

  -- row i, counted from 0, is that of number i + 1
  row_gives : (i : ℕ) → cond (row_within rows i s) (cell rows i j) 0 ≡ gives (suc i)
  unfolding row_within
  row_gives i =
      ap (λ (k : ℕ). cond (not (eqb (cell rows k 0) 0) && eqb (cell rows k 3) s) (cell rows k j) 0)
      (let z : i ≡ suc i - 1 = omega arith in z)

  sum_more : is_greatest j ≡ false → (t : Bool) (a x : ℕ)
      → merge_if t j (a % cell_limit) x ≡ (a + cond t x 0) % cell_limit
  unfolding merge_by
  sum_more k true a x = (λ t. merge_by (k t) (a % cell_limit) x) ∙ omega arith
  sum_more k false a x = omega arith

  greatest-more : is_greatest j ≡ true → (t : Bool) (a x : ℕ) → merge_if t j a x ≡ max a (cond t x 0)
  unfolding merge_by
  greatest-more k true a x = λ t. merge_by (k t) a x
  greatest-more k false a x = omega arith

  sum-passed : is_greatest j ≡ false → (n : ℕ) → cell_from rows s j n ≡ sum_to gives n % cell_limit
  unfolding cell_from sum_to
  sum-passed k zero = refl
  sum-passed k (suc i) =
      (λ t. merge_if (row_within rows i s) j (sum-passed k i t) (cell rows i j))
      ∙ sum_more k (row_within rows i s) (sum_to gives i) (cell rows i j)
      ∙ (λ t. (sum_to gives i + row_gives i t) % cell_limit)

  greatest-passed : is_greatest j ≡ true → (n : ℕ) → cell_from rows s j n ≡ greatest_to gives n
  unfolding cell_from greatest_to
  greatest-passed k zero = refl
  greatest-passed k (suc i) =
      (λ t. merge_if (row_within rows i s) j (greatest-passed k i t) (cell rows i j))
      ∙ greatest-more k (row_within rows i s) (greatest_to gives i) (cell rows i j)
      ∙ (λ t. max (greatest_to gives i) (row_gives i t))

  pass-gives : (n : ℕ) → cell_from rows s j n ≡ rows_give rows n s j
  unfolding is_greatest
  pass-gives n =
      ⊎_elim (λ k. greatest-passed (lt-ltb 2 (j % 5) (omega arith)) n ∙ sym (ap by_kind (le-ltb (j % 5) 3 k)))
      (λ k. sum-passed (le-ltb 2 (j % 5) (omega arith)) n ∙ sym (ap by_kind (lt-ltb (j % 5) 3 k))) (le-or-lt 3 (j % 5))
    where
      by_kind : Bool → ℕ
      by_kind t = cond t (sum_to gives n % cell_limit) (greatest_to gives n)

module _ (o : Opening) (c : Buffers) where
  -- ## the test of a row and of a cell

  abbrev row_test : ℕ → Bool
  row_test i = eqb (cell c.rows i 0) 0 || in_window o (cell c.rows i 3)

  abbrev RowInside : ℕ → Type 0
  RowInside i = (cell c.rows i 0 ≡ 0 → ⊥) → (F o ≤ cell c.rows i 3) × (cell c.rows i 3 < F o + C o)

  row-found : (i : ℕ) → row_test i ≡ true → RowInside i
  row-found i e some =
      in_window_lem o (cell c.rows i 3)
      (sym (λ t. ne_eqb (cell c.rows i 0) 0 some t || in_window o (cell c.rows i 3)) ∙ e)

  row-tested : (i : ℕ) → RowInside i → row_test i ≡ true
  row-tested i h = by-test (eqb (cell c.rows i 0) 0) refl
    where
      by-test : (t : Bool) → eqb (cell c.rows i 0) 0 ≡ t → t || in_window o (cell c.rows i 3) ≡ true
      by-test true e = refl
      by-test false e = window-in o (cell c.rows i 3) (h (eqb-false (cell c.rows i 0) 0 e))

  -- of second k of the window, from 0
  abbrev cell_test : ℕ → ℕ → Bool
  cell_test k j = eqb (cell c.seconds k j) (cell_from c.rows (F o + k) j (R o))

  pub at_place : (s : ℕ) → F o ≤ s → (j : ℕ) → cell_from c.rows (F o + (s - F o)) j (R o) ≡ rows_give c.rows (R o) s j
  at_place s p j =
      (λ t. cell_from c.rows (let z : F o + (s - F o) ≡ s = omega arith in z t) j (R o)) ∙ pass-gives c.rows s j (R o)

  cell-tested : (k j : ℕ) → second_cell c.seconds (F o) (F o + k) j ≡ rows_give c.rows (R o) (F o + k) j
      → cell_test k j ≡ true
  cell-tested k j e =
      eq-eqb (cell c.seconds k j) (cell_from c.rows (F o + k) j (R o))
      (ap (λ (a : ℕ). cell c.seconds a j) (let z : k ≡ F o + k - F o = omega arith in z)
      ∙ e ∙ sym (pass-gives c.rows (F o + k) j (R o)))

  -- ## the loops of the test

  rows_more : (i : ℕ) → rows_inside o c.rows (suc i) ≡ rows_inside o c.rows i && row_test i
  unfolding rows_inside
  rows_more i = refl

  cells-more : (k j : ℕ) → cells_right o c k (suc j) ≡ cells_right o c k j && cell_test k j
  unfolding cells_right
  cells-more k j = refl

  seconds-more : (k : ℕ) → seconds_right o c (suc k) ≡ seconds_right o c k && cells_right o c k width
  unfolding seconds_right
  seconds-more k = refl

  -- ## the whole test

  abbrev second_test : ℕ → Bool
  second_test k = cells_right o c k width

  found : is_consistent o c ≡ true → Consistent o c
  unfolding is_consistent
  found e =
      let both = both_true (rows_inside o c.rows (R o)) (seconds_right o c (C o)) e in
      record {
        rows_inside_lem = λ n p q.
            row-found (n - 1) (each_of (rows_inside o c.rows) row_test rows_more (R o) both.0 (n - 1) (omega arith));
        seconds-right = λ s p q j h.
            let second = each_of (seconds_right o c) second_test seconds-more (C o) both.1 (s - F o) (omega arith) in
            eqb-true (second_cell c.seconds (F o) s j) (cell_from c.rows (F o + (s - F o)) j (R o))
            (each_of (cells_right o c (s - F o)) (cell_test (s - F o)) (cells-more (s - F o)) width second j h)
            ∙ at_place s p j;
      }

  pub tested : Consistent o c → is_consistent o c ≡ true
  unfolding is_consistent rows_inside seconds_right cells_right
  tested right =
      λ t. all_of (rows_inside o c.rows) row_test rows_more refl (R o) row t
      && all_of (seconds_right o c) second_test seconds-more refl (C o) second t
    where
      row : (i : ℕ) → i < R o → row_test i ≡ true
      row i q =
          row-tested i
          (subst RowInside (let z : suc i - 1 ≡ i = omega arith in z) (right.rows_inside_lem (suc i) (omega arith) (omega arith)))

      second : (k : ℕ) → k < C o → second_test k ≡ true
      second k q =
          all_of (cells_right o c k) (cell_test k) (cells-more k) refl width
          (λ j h. cell-tested k j (right.seconds-right (F o + k) (omega arith) (omega arith) j h))

  not_found : (Consistent o c → ⊥) → is_consistent o c ≡ false
  not_found wrong = by-test (is_consistent o c) refl
    where
      by-test : (t : Bool) → is_consistent o c ≡ t → t ≡ false
      by-test true e = absurd (wrong (found e))
      by-test false e = refl

  says : opening_refusal o c ≡ 0 → (b : Bool) → is_consistent o c ≡ b → consistency_answer o c ≡ accepted b
  unfolding consistency_answer
  says none b e = sym (unless-none (opening_refusal o c) false (is_consistent o c) none) ∙ (λ t. accepted (e t))

  -- what was claimed
  pub test-answers : TestAnswers o c
  unfolding consistency_answer
  test-answers =
      record {
        refuses = λ some. sym (unless-some (opening_refusal o c) false (is_consistent o c) some);
        says-yes = λ none right. says none true (tested right);
        says-no = λ none wrong. says none false (not_found wrong);
        yes-only = λ e.
            let yes = given-value (opening_refusal o c) false (is_consistent o c) true (sym e) in
            (yes.0, found (sym yes.1));
      }
