-- A put and a take-out by their refusals: what an accepted one may take for granted. Assumes nothing.
use Prim.Native.Nat.{ℕ, ◌-◌, ◌≤◌}
use mathlib.Core.Path.{◌≡◌}
use mathlib.Core.Bool.{not}
use mathlib.Core.List.{[], ◌∷◌}
use lib.Dec.{eqb}
use borrow.Author.Tests.{not-false}
use Rattle.answers.specs.Refusal.{◌when◌, first, ◌then◌}
use Rattle.answers.proofs.Refusals.{then-zero, none-applies}
use Rattle.index_model.specs.declared.Opening.{Opening}
use Rattle.index_model.specs.Records.{Record, refusal_of, number_of, second_of}
use Rattle.index_model.specs.Cells.{cell}
use Rattle.index_model.specs.Buffers.{Buffers}
use Rattle.index_model.specs.Limits.{WithinLimits}
use Rattle.index_model.specs.Opening.{opening_refusal, other_reel, is_outside, in_window}
use Rattle.index_model.specs.Calls.{is_full, insert_refusal, remove_refusal}
use Rattle.index_model.proofs.Limits.{in-range, within-limits}
use Rattle.index_update.specs.Inner.{Placed}
use Rattle.index_update.proofs.Changing.{placed}

pub put-fits : (o : Opening) (b : Record) (c : Buffers) → insert_refusal o b c ≡ 0 → WithinLimits o c
    × ((1 ≤ number_of b) × (number_of b ≤ o.highest_number)) × Placed o (second_of b)
unfolding insert_refusal
put-fits o b c none =
    let checks =
    15 when other_reel o b
    ∷ 16 when is_outside o (number_of b)
    ∷ 17 when not (in_window o (second_of b))
    ∷ 18 when is_full o (number_of b - 1) (second_of b) c
    ∷ []
    in
    let later = then-zero (opening_refusal o c) (first checks)
    (then-zero (refusal_of b) (opening_refusal o c then first checks) none).1 in (
      within-limits o c later.0,
      in-range o _ (none-applies checks 1 tt later.1),
      placed o _
          (not-false _ (none-applies checks 2 tt later.1)),
    )

pub take-fits : (o : Opening) (n : ℕ) (c : Buffers) → remove_refusal o n c ≡ 0
    → WithinLimits o c × ((1 ≤ n) × (n ≤ o.highest_number))
unfolding remove_refusal
take-fits o n c none =
    let checks = 16 when is_outside o n ∷ 19 when eqb (cell c.rows (n - 1) 0) 0 ∷ [] in
    let both = then-zero (opening_refusal o c) (first checks) none in
    (within-limits o c both.0, in-range o n (none-applies checks 0 tt both.1))
