-- Tests that must all hold: a list of them, as the rule of a table's line is, which is computed; and one test at each of the first
-- n numbers, with the first number at which it does not hold.
use Rattle.std.specs.Prelude.{ℕ, zero, suc, Bool, true, cond, ◌&&◌, List, [], ◌∷◌}

abbrev pub all : List Bool → Bool
all [] = true
all (b ∷ bs) = b && all bs

-- the test at each of 0 to n - 1
unfoldable pub all_to : (ℕ → Bool) → ℕ → Bool
all_to test zero = true
all_to test (suc n) = all_to test n && test n

-- the first of 0 to n - 1 at which the test does not hold; n where it holds at each
unfoldable pub first_not : (ℕ → Bool) → ℕ → ℕ
first_not test zero = 0
first_not test (suc n) = cond (test 0) (suc (first_not (λ k. test (suc k)) n)) 0
