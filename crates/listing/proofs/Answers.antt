-- The answer of a call that writes a text from the start of a buffer, and the buffer after it, by the refusal. Assumes nothing.
use Prim.Native.Nat.{ℕ, ◌≤◌}
use mathlib.Core.Path.{◌≡◌, refl, ap, ◌∙◌}
use mathlib.Core.List.{List, ◌++◌}
use mathlib.Core.Bool.{cond}
use native.Mathlib.Nat.{zero-add}
use native.Mathlib.Omega.{arith}
use lib.Dec.{eqb}
use lib.ListN.{length, drop}
use lib.Seq.{sets-eq}
use Rattle.answers.specs.Answer.{Answer, unless}
use Rattle.answers.proofs.Refusals.{then-ok}
use Rattle.record.specs.Record.{record_refusal}
use Rattle.text.specs.Placed.{answer_at, buffer_at}
use Rattle.numbers.specs.Writing.{Written}
use Rattle.numbers.proofs.Writing.{next_place_lem}
use Rattle.listing.specs.Listing.{record_text, text_refusal, line_refusal, text_answer, text_over, buffer_after}

module _ (out text : List ℕ) where
  -- what `text` answers at place 0
  pub from_start : {answer : Answer ℕ} {after : List ℕ} → answer ≡ answer_at out 0 text → after ≡ buffer_at out 0 text
      → (answer ≡ text_answer (text_refusal out text) text) × (after ≡ buffer_after (text_refusal out text) out text)
  unfolding text_answer buffer_after
  from_start e f = (
    e ∙ ap (unless (text_refusal out text) 0) (zero-add (length text)),
    f ∙ ap (λ (k : ℕ). cond (eqb (text_refusal out text) 0) (text ++ drop k out) out) (zero-add (length text)),
  )

  -- a text written there, where there is room
  pub whole-text : {next : ℕ} {after : List ℕ} → length text ≤ length out → Written out 0 text next after
      → (next ≡ length text) × (after ≡ text_over text out)
  whole-text h w = (
    next_place_lem (record { enough = omega arith }) w ∙ zero-add (length text),
    w.buffer ∙ sets-eq text out 0 (omega arith) ∙ ap (λ (k : ℕ). text ++ drop k out) (zero-add (length text)),
  )

-- 1 to 11 come before 21
module _ (b out : List ℕ) where
  pub record-accepted : 0 ≡ record_refusal 1985 b → text_refusal out (record_text b) ≡ line_refusal b out
  unfolding line_refusal
  record-accepted e = then-ok (record_refusal 1985 b) _ _ e refl
