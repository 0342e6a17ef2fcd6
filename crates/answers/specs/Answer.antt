-- What a call answers: beside a refusal's number any other part is 0 or empty. FORMAT, "Refusal numbers".
use Rattle.std.specs.Prelude.{ℕ, Bool, true, false, cond, eqb}

-- the refusal number, 0 for none, the value, and whether a value is given: a refusal that bore the number 0 would not pass
-- for the value 0
pub record Answer (A : Type 0) : Type 0 where
  pub number : ℕ
  pub value : A
  pub given : Bool

abbrev pub accepted : {A : Type 0} → A → Answer A
accepted v = record { number = 0; value = v; given = true }

abbrev pub refused : {A : Type 0} → A → ℕ → Answer A
refused empty n = record { number = n; value = empty; given = false }

-- a struct with a refusal's number and a value, where an enum cannot hold the value: it is given where the number is 0
abbrev pub told : {A : Type 0} → ℕ → A → Answer A
told n v = record { number = n; value = v; given = eqb n 0 }

-- the value where n is no refusal, else the refusal beside what is empty
abbrev pub unless : {A : Type 0} → ℕ → A → A → Answer A
unless n empty v = cond (eqb n 0) (accepted v) (refused empty n)
