-- Demand 3, whole. Take any accepted opening, whatever its buffers held before, and any list of calls: puts, re-reads that
-- replace a record, take-outs, questions and tests, refused ones included. Each call gets what opening returned and the cells
-- as opening or the call before it left them. The ledger is told by the calls alone. Assumes nothing.
use Prim.Native.Nat.{ℕ}
use mathlib.Core.Path.{◌≡◌, sym, subst}
use mathlib.Core.Bool.{true, false, ◌||◌}
use mathlib.Core.List.{List}
use Rattle.answers.specs.Answer.{accepted}
use Rattle.index_model.specs.Records.{Record}
use Rattle.index_model.specs.declared.Opening.{Opening}
use Rattle.index_model.specs.Cells.{block_at}
use Rattle.index_model.specs.Buffers.{Buffers}
use Rattle.index_model.specs.Opening.{limits_wrong, held_wrong, in_window, window_place, opening_of, open_refusal, open_answer, opened}
use Rattle.index_model.specs.Calls.{second_shown, is_consistent, consistency_answer}
use Rattle.index_model.specs.Ledger.{Ledger, no_records, ledger_second, Call}
use Rattle.index_model.specs.History.{after, replies, ledger_after, ledger_replies, EachAlters}
use Rattle.index_model.proofs.Agreement.{Regular, Agree}
use Rattle.index_model.proofs.Judging.{shown-is, consistent, test-answered}
use Rattle.index_model.proofs.Steps.{after-agrees, all-answered, each-alters}
use Rattle.index_model.proofs.Opened.{regular-empty, fine, returned, opened-agrees}

-- what is claimed of the value o that opening returned, the cells c that it left, and the calls
pub record Demand3 (o : Opening) (c : Buffers) (calls : List Call) : Type 0 where
  -- every call answers as the ledger does: the same refusal number or none, the same totals and verdict, yes from the test
  pub answers : replies o calls c ≡ ledger_replies o calls no_records
  -- after the list, the totals and verdict that the cells of each second of the window say are those worked out from nothing
  -- over the records then held
  pub seconds : (s : ℕ) → in_window o s ≡ true → second_shown o (block_at (after o calls c).seconds (window_place o s))
      ≡ ledger_second o (ledger_after o calls no_records) s
  -- and a test would say yes
  pub consistent : is_consistent o (after o calls c) ≡ true
  -- every accepted put or take-out altered only its record's row and the seconds it left and joined; every other call, nothing
  pub alterations : EachAlters o calls no_records c

module _ (pattern : Record) (F C R : ℕ) (c : Buffers) (none : open_refusal pattern F C R c ≡ 0) (calls : List Call) where
  abbrev o : Opening
  o = opening_of pattern F C R

  abbrev start : Buffers
  start = opened pattern F C R c

  abbrev ledger : Ledger
  ledger = ledger_after o calls no_records

  -- no later call refuses the opening, and after the calls the cells agree with the ledger
  pub fits : limits_wrong (opening_of pattern F C R) || held_wrong (opening_of pattern F C R) ≡ false
  fits = fine pattern F C R c none

  pub ended : Regular (opening_of pattern F C R) (ledger_after (opening_of pattern F C R) calls no_records)
      × Agree (opening_of pattern F C R) (ledger_after (opening_of pattern F C R) calls no_records)
      (after (opening_of pattern F C R) calls (opened pattern F C R c))
  ended = after-agrees o fits calls no_records start (regular-empty o) (opened-agrees pattern F C R c none)

  pub demand3 : Demand3 (open_answer pattern F C R c).value (opened pattern F C R c) calls
  demand3 = subst (λ (o : Opening). Demand3 o start calls) (sym (returned pattern F C R c none)) proved
    where
      proved : Demand3 o start calls
      proved =
          let empty = regular-empty o in
          let agree = opened-agrees pattern F C R c none in
          record {
            answers = all-answered o fits calls no_records start empty agree;
            seconds = shown-is o fits ledger (after o calls start) ended.0 ended.1;
            consistent = consistent o fits ledger (after o calls start) ended.0 ended.1;
            alterations = each-alters o fits calls no_records start empty agree;
          }

  -- after every history the test says yes
  abbrev pub SaysYes : Opening → Type 0
  SaysYes o =
      consistency_answer o (after o calls (opened pattern F C R c)) ≡ accepted true

  pub test-says-yes : SaysYes (open_answer pattern F C R c).value
  test-says-yes =
      subst SaysYes (sym (returned pattern F C R c none))
      (test-answered o fits ledger (after o calls start) ended.0 ended.1)
