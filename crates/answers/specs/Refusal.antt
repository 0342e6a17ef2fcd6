-- Refusals in the order of checking: the first that applies is the answer. FORMAT, "Refusal numbers".
use Rattle.std.specs.Prelude.{ℕ, Bool, cond, List, [], ◌∷◌, eqb}

-- a refusal's number, and whether it applies
pub record Check : Type 0 where
  pub number : ℕ
  pub applies : Bool

infixl 70 ◌when◌
abbrev pub ◌when◌ : ℕ → Bool → Check
n when b = record { number = n; applies = b }

-- the number of the first check that applies, or 0
abbrev pub first : List Check → ℕ
first [] = 0
first (c ∷ cs) = cond c.applies c.number (first cs)

-- the refusal n, or where that is 0 the refusal m
infixr 45 ◌then◌
abbrev pub ◌then◌ : ℕ → ℕ → ℕ
n then m = cond (eqb n 0) m n
