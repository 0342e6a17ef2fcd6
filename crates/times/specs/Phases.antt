-- The two phases of a record in cycles, each exact: its 48-bit count over 2 to the fraction bits of the edition, 256 in 1985 and
-- 1,048,576 in 1992. FORMAT, "Times and phases".
use Rattle.std.specs.Prelude.{ℕ, ◌^◌, false, List, [], ◌∷◌, Float, Result, Ok, Err}
use Rattle.std.specs.Float.Ieee.Exact.{HasValue}
use Rattle.answers.specs.Answer.{Answer, unless}
use Rattle.answers.specs.declared.Refusal.{Refusal}
use Rattle.fields.specs.Field.{value_of}
use Rattle.header.specs.Rows.{phase1, phase2}
use Rattle.header.specs.Edition.{fraction_bits}
use Rattle.phase.specs.Phase.{phase_of}
use Rattle.record.specs.Record.{record_refusal}
use Rattle.times.specs.declared.PhasePair.{PhasePair}

-- of any bytes, in the edition n
abbrev pub phases_of : ℕ → List ℕ → List Float
phases_of n b = phase_of (fraction_bits n) (value_of phase1 b) ∷ phase_of (fraction_bits n) (value_of phase2 b) ∷ []

-- of the record b, or the refusal
unfoldable pub phase_answer : ℕ → List ℕ → Answer (List Float)
phase_answer n b = unless (record_refusal n b) [] (phases_of n b)

-- the two phases of the code's answer, as a list
abbrev pub both : PhasePair → List Float
both p = p.first ∷ p.second ∷ []

-- the floats of an answer are finite, not negative, and in value exactly the counts of the record b over that power of two; a
-- refusal has none
abbrev pub Exactly : ℕ → List ℕ → Result PhasePair Refusal → Type 0
Exactly n b (Ok p) =
    HasValue p.first false (value_of phase1 b) (2 ^ fraction_bits n)
    × HasValue p.second false (value_of phase2 b) (2 ^ fraction_bits n)
Exactly n b (Err r) = Unit
