-- One call: the cells agree with the ledger after it, it answers as the ledger, and it alters only what it may. Then any list
-- of calls. Assumes nothing.
use Prim.Native.Nat.{ℕ, suc, ◌+◌, ◌-◌, ◌/◌}
use mathlib.Core.Path.{◌≡◌, refl, ap, sym, ◌∙◌, subst}
use mathlib.Core.Bool.{Bool, true, false, cond, ◌&&◌, ◌||◌, true≢false}
use mathlib.Core.List.{List, [], ◌∷◌}
use mathlib.Core.Option.{Option, none, some}
use native.Mathlib.Omega.{arith}
use lib.Dec.{eqb}
use borrow.Author.Tests.{eqb-true}
use Rattle.lists.proofs.Truth.{or-false}
use Rattle.index_model.specs.declared.Opening.{Opening}
use Rattle.index_model.specs.Records.{Record, number_of, second_of}
use Rattle.index_model.specs.Cells.{width, row_of}
use Rattle.index_model.specs.Buffers.{Buffers}
use Rattle.index_model.specs.Opening.{limits_wrong, held_wrong}
use Rattle.index_model.specs.Calls.{inserted, row_inserted, removed, row_removed}
use Rattle.index_model.specs.Ledger.{
  Ledger,
  with_entry,
  Call,
  insert,
  remove,
  query,
  consistency,
  done,
  second,
  tested,
  ledger_insert,
  ledger_remove,
  ledger_step,
  ledger_reply,
}
use Rattle.index_model.specs.History.{
  step,
  reply,
  after,
  replies,
  ledger_after,
  ledger_replies,
  is_accepted,
  call_number,
  is_of,
  leaves,
  joins,
  alters_row,
  alters_second,
  Alters,
  EachAlters,
}
use Rattle.index_model.proofs.Agreement.{Regular, Agree}
use Rattle.index_model.proofs.Changes.{Changed, put-changed, taken-changed}
use Rattle.index_model.proofs.Judging.{
  put-accepted,
  take-accepted,
  others-count,
  put-judged,
  take-judged,
  ask-answered,
  test-answered,
}

-- a call that changes nothing alters only what it may
same : (o : Opening) (L : Ledger) (call : Call) (c : Buffers) → Alters o L call c c
same o L call c =
    record { rows-length = refl; seconds-length = refl; rows = λ m e. refl; seconds = λ m e. refl; nothing = λ e. refl }

-- what one call gives
pub record Stepped (o : Opening) (L : Ledger) (call : Call) (L' : Ledger) (c c' : Buffers) : Type 0 where
  pub regular : Regular o L'
  pub agree : Agree o L' c'
  pub alters : Alters o L call c c'

-- of two tests of which the first holds, but not both, the second fails
second-fails : (a b : Bool) → a ≡ true → a && b ≡ false → b ≡ false
second-fails a b e h = (λ t. sym e t && b) ∙ h

-- an accepted call, once its change is made
changed-steps : (o : Opening) (L : Ledger) (call : Call) (entry : Option Record) (c c' : Buffers) → is_accepted o L call ≡ true
    → ((k : ℕ) → joins call k ≡ is_of k entry) → Changed o L (call_number call) entry c c'
    → Stepped o L call (with_entry L (call_number call) entry) c c'
unfolding alters_row alters_second
changed-steps o L call entry c c' e joined changed =
    record {
      regular = changed.regular;
      agree = changed.agree;
      alters =
          record {
            rows-length = changed.rows-length;
            seconds-length = changed.seconds-length;
            rows = λ m h. changed.rows m (second-fails (is_accepted o L call) (eqb (suc (m / width)) (call_number call)) e h);
            seconds =
                λ m h.
                let k : ℕ = o.first_second + m / width in
                let neither = or-false (leaves L call k) (joins call k)
                (second-fails (is_accepted o L call) (leaves L call k || joins call k) e h) in
                changed.seconds m neither.0 (sym (joined k) ∙ neither.1);
            nothing = λ h. absurd (true≢false (sym e ∙ h));
          };
    }

module _ (o : Opening) (fine : limits_wrong o || held_wrong o ≡ false) where
  module _ (L : Ledger) (c : Buffers) (regular : Regular o L) (agree : Agree o L c) where
    -- the buffers once the record b is put under its number, and once number n is taken out
    abbrev put : Record → Buffers
    put b = row_inserted o (number_of b - 1) (second_of b) (row_of b) c

    abbrev taken : ℕ → Buffers
    taken n = row_removed o (n - 1) c

    put-done : (b : Record) → eqb (ledger_insert o L b) 0 ≡ true
        → Stepped o L (insert b) (with_entry L (number_of b) (some b)) c (put b)
    unfolding is_accepted
    put-done b e =
        let enters = put-accepted o L b (eqb-true (ledger_insert o L b) 0 e) in
        changed-steps o L (insert b) (some b) c (put b) e (λ k. refl)
        (put-changed o L c regular agree (number_of b) enters.above enters.below b enters.sound
        (omega (
          arith,
          enters.room,
          others-count o fine L c regular agree (number_of b) (second_of b) enters.above
              enters.below,
        )))

    take_done : (n : ℕ) → eqb (ledger_remove o L n) 0 ≡ true → Stepped o L (remove n) (with_entry L n none) c (taken n)
    unfolding is_accepted
    take_done n e =
        let range = take-accepted o L n (eqb-true (ledger_remove o L n) 0 e) in
        changed-steps o L (remove n) none c (taken n) e (λ k. refl)
        (taken-changed o L c regular agree n range.0 range.1)

    -- by the ledger's test: the change, or nothing
    by-test : (call : Call) (L' : Ledger) (c' : Buffers) (t : Bool) → (t ≡ true → Stepped o L call L' c c')
        → Stepped o L call (cond t L' L) c (cond t c' c)
    by-test call L' c' true h = h refl
    by-test call L' c' false h = record { regular = regular; agree = agree; alters = same o L call c }

    pub stepped : (call : Call) → Stepped o L call (ledger_step o call L) c (step o call c)
    unfolding ledger_step step inserted removed
    stepped (insert b) =
        subst
        (λ (x : ℕ). Stepped o L (insert b) (ledger_step o (insert b) L) c (cond (eqb x 0) (put b) c))
        (sym (put-judged o fine L c regular agree b))
        (by-test (insert b) (with_entry L (number_of b) (some b)) (put b) (eqb (ledger_insert o L b) 0) (put-done b))
    stepped (remove n) =
        subst
        (λ (x : ℕ). Stepped o L (remove n) (ledger_step o (remove n) L) c (cond (eqb x 0) (taken n) c))
        (sym (take-judged o fine L c regular agree n))
        (by-test (remove n) (with_entry L n none) (taken n) (eqb (ledger_remove o L n) 0) (take_done n))
    stepped (query s) = record { regular = regular; agree = agree; alters = same o L (query s) c }
    stepped consistency = record { regular = regular; agree = agree; alters = same o L consistency c }

    pub answered : (call : Call) → reply o call c ≡ ledger_reply o call L
    unfolding reply ledger_reply
    answered (insert b) = ap done (put-judged o fine L c regular agree b)
    answered (remove n) = ap done (take-judged o fine L c regular agree n)
    answered (query s) = ap second (ask-answered o fine L c regular agree s)
    answered consistency = ap tested (test-answered o fine L c regular agree)

  -- ## any list of calls

  pub after-agrees : (calls : List Call) (L : Ledger) (c : Buffers) → Regular o L → Agree o L c
      → Regular o (ledger_after o calls L) × Agree o (ledger_after o calls L) (after o calls c)
  after-agrees [] L c g a = (g, a)
  after-agrees (call ∷ calls) L c g a =
      let next = stepped L c g a call in
      after-agrees calls (ledger_step o call L) (step o call c) next.regular next.agree

  pub all-answered : (calls : List Call) (L : Ledger) (c : Buffers) → Regular o L → Agree o L c
      → replies o calls c ≡ ledger_replies o calls L
  all-answered [] L c g a = refl
  all-answered (call ∷ calls) L c g a =
      let next = stepped L c g a call in
      λ t. answered L c g a call t ∷ all-answered calls (ledger_step o call L) (step o call c) next.regular next.agree t

  pub each-alters : (calls : List Call) (L : Ledger) (c : Buffers) → Regular o L → Agree o L c → EachAlters o calls L c
  each-alters [] L c g a = tt
  each-alters (call ∷ calls) L c g a =
      let next = stepped L c g a call in
      (next.alters, each-alters calls (ledger_step o call L) (step o call c) next.regular next.agree)
