-- A question that is not refused: what it may take for granted, and its answer. Assumes nothing.
use Prim.Native.Nat.{ℕ, ◌+◌, ◌≤◌, ◌<◌}
use mathlib.Core.Path.{◌≡◌, ◌∙◌}
use mathlib.Core.Bool.{not}
use mathlib.Core.List.{[], ◌∷◌}
use native.Mathlib.Omega.{arith}
use borrow.Author.Tests.{not-false}
use Rattle.answers.specs.Answer.{accepted}
use Rattle.answers.specs.Refusal.{◌when◌, first}
use Rattle.answers.proofs.Refusals.{then-zero, none-applies, unless-none}
use Rattle.index_model.specs.declared.Opening.{Opening}
use Rattle.index_model.specs.Second.{no_second}
use Rattle.index_model.specs.Cells.{block_at}
use Rattle.index_model.specs.Buffers.{Buffers}
use Rattle.index_model.specs.Limits.{WithinLimits}
use Rattle.index_model.specs.Opening.{opening_refusal, in_window, window_place}
use Rattle.index_model.specs.Calls.{second_shown, query_refusal, query_answer}
use Rattle.index_model.proofs.Limits.{in_window_lem, within-limits}
use Rattle.index_cells.specs.Blocks.{block_or_none}
use Rattle.index_cells.proofs.Held.{block_read}

module _ (o : Opening) (s : ℕ) (c : Buffers) (none : query_refusal o s c ≡ 0) where
  both : (opening_refusal o c ≡ 0) × (first (17 when not (in_window o s) ∷ []) ≡ 0)
  unfolding query_refusal
  both = then-zero (opening_refusal o c) (first (17 when not (in_window o s) ∷ [])) none

  limits : WithinLimits o c
  limits = within-limits o c both.0

  window : (o.first_second ≤ s) × (s < o.first_second + o.second_count)
  window = in_window_lem o s (not-false (in_window o s) (none-applies (17 when not (in_window o s) ∷ []) 0 tt both.1))

  pub asked : accepted (second_shown o (block_or_none c.seconds (window_place o s))) ≡ query_answer o s c
  unfolding query_answer
  asked =
      (λ t. accepted (second_shown o
      (block_read c.seconds o.second_count (window_place o s) limits.seconds-long
      (omega (arith, window.0, window.1)) t)))
      ∙ unless-none (query_refusal o s c) no_second (second_shown o (block_at c.seconds (window_place o s))) none
