-- A list given by a rule, and a buffer whose first entries are given by a rule while the others stay: FORMAT, "Samples", of
-- places past the sample count, and so of every other lent output past what is written.
use Rattle.std.specs.Prelude.{ℕ, zero, suc, List, [], ◌∷◌, ◌++◌, drop}

-- rule k, rule (k + 1), .., n entries
abbrev pub tab : {A : Type 0} → (ℕ → A) → ℕ → ℕ → List A
tab rule k zero = []
tab rule k (suc n) = rule k ∷ tab rule (suc k) n

-- the buffer with its first n entries by the rule
unfoldable pub over : {A : Type 0} → List A → (ℕ → A) → ℕ → List A
over buffer rule n = tab rule 0 n ++ drop n buffer
