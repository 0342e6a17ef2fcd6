-- The cells are told by the ledger: two lists of calls on the same cells that leave the same ledger leave the same cells.
-- Assumes nothing.
use Prim.Native.Nat.{ℕ, suc, ◌+◌, ◌*◌, ◌/◌, ◌%◌, ◌<◌, ◌≤◌}
use mathlib.Core.Path.{◌≡◌, refl, sym, ◌∙◌, subst}
use mathlib.Core.Bool.{Bool, true, false, ◌&&◌, ◌||◌, true≢false}
use mathlib.Core.List.{List, [], ◌∷◌}
use mathlib.Core.Option.{Option, none, some}
use mathlib.Core.Logic.{⊎_elim}
use native.Mathlib.Omega.{arith}
use lib.Dec.{eqb}
use lib.ListN.{get_or, length}
use lib.Seq.{ext_get_or}
use borrow.Author.Tests.{eqb-true, ne_eqb}
use Rattle.lists.proofs.Order.{le-or-lt}
use Rattle.index_model.specs.declared.Opening.{Opening}
use Rattle.index_model.specs.Records.{Record, second_of}
use Rattle.index_model.specs.Cells.{width, cell}
use Rattle.index_model.specs.Buffers.{Buffers}
use Rattle.index_model.specs.Opening.{limits_wrong, held_wrong}
use Rattle.index_model.specs.Ledger.{
  Ledger,
  Call,
  insert,
  remove,
  query,
  consistency,
  ledger_insert,
  ledger_remove,
  ledger_step,
}
use Rattle.index_model.specs.History.{
  step,
  after,
  ledger_after,
  is_accepted,
  call_number,
  is_of,
  leaves,
  joins,
  alters_row,
  alters_second,
  Alters,
}
use Rattle.index_model.proofs.Limits.{in_window_lem}
use Rattle.index_model.proofs.Seconds.{Inside}
use Rattle.index_model.proofs.Agreement.{Regular, Agree}
use Rattle.index_model.proofs.Judging.{put-accepted, take-accepted}
use Rattle.index_model.proofs.Steps.{stepped, after-agrees}

-- ## no call alters what lies beyond the cells of the index

module _ (o : Opening) (L : Ledger) (regular : Regular o L) where
  -- what an accepted call is about: a number up to R, and entries of the window
  number-below : (call : Call) → is_accepted o L call ≡ true → call_number call ≤ o.highest_number
  unfolding is_accepted
  number-below (insert b) e = (put-accepted o L b (eqb-true (ledger_insert o L b) 0 e)).below
  number-below (remove n) e = (take-accepted o L n (eqb-true (ledger_remove o L n) 0 e)).1
  number-below (query s) e = absurd (true≢false (sym e))
  number-below consistency e = absurd (true≢false (sym e))

  none-beyond : (held : Option Record) → Inside o held → (k : ℕ) → o.second_count ≤ k
      → is_of (o.first_second + k) held ≡ false
  none-beyond none h k q = refl
  none-beyond (some b) h k q =
      ne_eqb (second_of b) (o.first_second + k) (λ z. omega (arith, z, (in_window_lem o (second_of b) (h b refl)).1))

  joins-beyond : (call : Call) → is_accepted o L call ≡ true → (k : ℕ) → o.second_count ≤ k
      → joins call (o.first_second + k) ≡ false
  unfolding is_accepted
  joins-beyond (insert b) e k q =
      ne_eqb (second_of b) (o.first_second + k)
      (λ z. omega (arith, z, (in_window_lem o (second_of b) (put-accepted o L b (eqb-true (ledger_insert o L b) 0 e)).sound.window).1))
  joins-beyond (remove n) e k q = refl
  joins-beyond (query s) e k q = refl
  joins-beyond consistency e k q = refl

  rows-beyond : (call : Call) (i : ℕ) → o.highest_number ≤ i → alters_row o L call i ≡ false
  unfolding alters_row
  rows-beyond call i q = by-test (is_accepted o L call) refl
    where
      by-test : (t : Bool) → is_accepted o L call ≡ t → t && eqb (suc i) (call_number call) ≡ false
      by-test true e = ne_eqb (suc i) (call_number call) (λ z. omega (arith, z, number-below call e))
      by-test false e = refl

  seconds-beyond : (call : Call) (k : ℕ) → o.second_count ≤ k → alters_second o L call k ≡ false
  unfolding alters_second
  seconds-beyond call k q = by-test (is_accepted o L call) refl
    where
      by-test : (t : Bool) → is_accepted o L call ≡ t
          → t && (leaves L call (o.first_second + k) || joins call (o.first_second + k)) ≡ false
      by-test true e =
          λ t. none-beyond (L (call_number call)) (λ b h. (regular.sound (call_number call) b h).window) k q t
          || joins-beyond call e k q t
      by-test false e = refl

-- lengths, and what lies beyond, are the same
pub record SameBeyond (o : Opening) (c c' : Buffers) : Type 0 where
  pub rows-length : length c'.rows ≡ length c.rows
  pub seconds-length : length c'.seconds ≡ length c.seconds
  pub rows : (m : ℕ) → width * o.highest_number ≤ m → get_or c'.rows m 0 ≡ get_or c.rows m 0
  pub seconds : (m : ℕ) → width * o.second_count ≤ m → get_or c'.seconds m 0 ≡ get_or c.seconds m 0

step-beyond : (o : Opening) (L : Ledger) → Regular o L → (call : Call) (c c' : Buffers) → Alters o L call c c' → SameBeyond o c c'
step-beyond o L regular call c c' a =
    record {
      rows-length = a.rows-length;
      seconds-length = a.seconds-length;
      rows = λ m h. a.rows m (rows-beyond o L regular call (m / width) (omega arith));
      seconds = λ m h. a.seconds m (seconds-beyond o L regular call (m / width) (omega arith));
    }

module _ (o : Opening) (fine : limits_wrong o || held_wrong o ≡ false) where
  after-beyond : (calls : List Call) (L : Ledger) (c : Buffers) → Regular o L → Agree o L c → SameBeyond o c (after o calls c)
  after-beyond [] L c g a = record { rows-length = refl; seconds-length = refl; rows = λ m h. refl; seconds = λ m h. refl }
  after-beyond (call ∷ calls) L c g a =
      let next = stepped o fine L c g a call in
      let first = step-beyond o L g call c (step o call c) next.alters in
      let later = after-beyond calls (ledger_step o call L) (step o call c) next.regular next.agree in
      record {
        rows-length = later.rows-length ∙ first.rows-length;
        seconds-length = later.seconds-length ∙ first.seconds-length;
        rows = λ m h. later.rows m h ∙ first.rows m h;
        seconds = λ m h. later.seconds m h ∙ first.seconds m h;
      }

-- ## so the ledger tells the cells

-- lists of blocks with the same first n blocks and the same cells beyond
same-cells : (n : ℕ) (x y : List ℕ) → length x ≡ length y → ((i : ℕ) → i < n → (j : ℕ) → j < width → cell x i j ≡ cell y i j)
    → ((m : ℕ) → width * n ≤ m → get_or x m 0 ≡ get_or y m 0) → x ≡ y
same-cells n x y e within beyond =
    ext_get_or 0 x y e
    (λ m h. ⊎_elim (λ p. beyond m p)
    (λ p. let z : width * (m / width) + m % width ≡ m = omega arith in sym (λ t. get_or x (z t) 0)
    ∙ within (m / width) (omega arith) (m % width) (omega arith) ∙ (λ t. get_or y (z t) 0))
    (le-or-lt (width * n) m))

pub unique : (o : Opening) (L : Ledger) (c c' : Buffers) → Agree o L c → Agree o L c' → SameBeyond o c c' → c' ≡ c
unique o L c c' a a' b =
    λ t. record {
      rows =
          same-cells o.highest_number c'.rows c.rows b.rows-length
          (λ i hi j hj. a'.rows_are i hi j hj ∙ sym (a.rows_are i hi j hj)) b.rows t;
      seconds =
          same-cells o.second_count c'.seconds c.seconds b.seconds-length
          (λ k hk j hj. a'.seconds-are k hk j hj ∙ sym (a.seconds-are k hk j hj)) b.seconds t;
    }

pub told-by-ledger : (o : Opening) → limits_wrong o || held_wrong o ≡ false → (L : Ledger) (c : Buffers) → Regular o L → Agree o L c
    → (calls calls' : List Call) → ledger_after o calls L ≡ ledger_after o calls' L → after o calls c ≡ after o calls' c
told-by-ledger o fine L c g a calls calls' same =
    let x = after-beyond o fine calls L c g a in
    let y = after-beyond o fine calls' L c g a in
    unique o (ledger_after o calls' L) (after o calls' c) (after o calls c) (after-agrees o fine calls' L c g a).1
    (subst (λ (l : Ledger). Agree o l (after o calls c)) same (after-agrees o fine calls L c g a).1)
    (record {
      rows-length = x.rows-length ∙ sym y.rows-length;
      seconds-length = x.seconds-length ∙ sym y.seconds-length;
      rows = λ m h. x.rows m h ∙ sym (y.rows m h);
      seconds = λ m h. x.seconds m h ∙ sym (y.seconds m h);
    })
