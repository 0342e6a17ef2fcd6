-- 20 exactly when the table of refusals says so: "segment number is none of 7, 5, 2, 6, 10, 4, 8". Assumes nothing.
use Prim.Native.Nat.{ℕ, suc, ◌+◌, ◌≤◌}
use mathlib.Core.Path.{◌≡◌, refl, ap, sym, ◌∙◌}
use mathlib.Core.Bool.{Bool, true, false, cond, not, ◌&&◌}
use mathlib.Core.List.{List, [], ◌∷◌}
use native.Mathlib.Omega.{arith}
use lib.Dec.{eqb}
use lib.ListN.{length}
use borrow.Author.Tests.{eqb-true, eqb-false, leb-true, le-leb}
use Rattle.lists.proofs.Truth.{◌exactly-when◌}
use Rattle.answers.specs.Refusal.{◌when◌, first, ◌then◌}
use Rattle.header.specs.Edition.{edition_of, no_segments}
use Rattle.record.specs.Record.{record_refusal}
use Rattle.monitor.specs.Monitor.{segment_count, place_in, is_new, is_no_row}
use Rattle.segments.specs.Segments.{segment_numbers}
use Rattle.segments.specs.Question.{segment_row, segment_answer}
use Rattle.segments.proofs.Given.{refusal-number}

abbrev pub NoneOf : List ℕ → ℕ → Type 0
NoneOf [] number = Unit
NoneOf (m ∷ ms) number = (number ≡ m → ⊥) × NoneOf ms number

-- a search comes to the end of a list exactly when the number is none of its entries
past_all : (ms : List ℕ) (number : ℕ) → (length ms ≤ place_in ms number) exactly-when NoneOf ms number
unfolding place_in
past_all [] number = (λ h. tt, λ h. omega arith)
past_all (m ∷ ms) number = by-test (eqb m number) refl (past_all ms number)
  where
    by-test : (t : Bool) → eqb m number ≡ t → (length ms ≤ place_in ms number) exactly-when NoneOf ms number
        → (suc (length ms) ≤ cond t 0 (1 + place_in ms number)) exactly-when NoneOf (m ∷ ms) number
    by-test true a rest = (λ h. absurd (let z : ⊥ = omega (arith, h) in z), λ h. absurd (h.0 (sym (eqb-true m number a))))
    by-test false a rest = (
      λ h. (λ e. eqb-false m number a (sym e), rest.0 (omega (arith, h))),
      λ h. omega (arith, rest.1 h.1),
    )

-- of two accepted records of 1985 the refusal is 20, 23 or none
module _ (this earlier : List ℕ) (number : ℕ) (p : record_refusal 1985 this ≡ 0) (q : record_refusal 1985 earlier ≡ 0) where
  abbrev row : ℕ
  row = segment_row number

  abbrev neither : Bool
  neither = not (is_new 1985 this row) && not (is_new 1985 earlier row)

  abbrev by : Bool → Bool → ℕ
  by none old = cond none 20 (cond old 23 0)

  answer : (segment_answer 1985 this earlier number).number ≡ by (is_no_row row) neither
  unfolding edition_of
  answer =
      sym (refusal-number 1985 this earlier number)
      ∙ (λ i. p i then (q i then first (26 when no_segments 1985 ∷ 20 when is_no_row row ∷ 23 when neither ∷ [])))

  is-20 : (none old : Bool) → by none old ≡ 20 → none ≡ true
  is-20 true old e = refl
  is-20 false true e = absurd (let z : ⊥ = omega (arith, e) in z)
  is-20 false false e = absurd (let z : ⊥ = omega (arith, e) in z)

  pub refused-20 : ((segment_answer 1985 this earlier number).number ≡ 20) exactly-when NoneOf (7 ∷ 5 ∷ 2 ∷ 6 ∷ 10 ∷ 4 ∷ 8 ∷ []) number
  unfolding segment_row
  refused-20 =
      let past = past_all segment_numbers number in (
        λ e. past.0 (leb-true segment_count row (is-20 (is_no_row row) neither (sym answer ∙ e))),
        λ h. answer ∙ ap (λ (t : Bool). by t neither) (le-leb segment_count row (past.1 h)),
      )
