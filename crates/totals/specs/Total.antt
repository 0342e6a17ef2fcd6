-- A channel's total over its samples, and the four channels' totals. FORMAT, "Samples", "The index of seconds".
use Rattle.std.specs.Prelude.{ℕ, ◌+◌, ◌*◌, ◌/◌, min, Bool, false, cond, ◌||◌, eqb, ℤ, pos, negsuc, nat_abs, ◌+ℤ◌, length}
use mathlib.Core.List.{List, [], ◌∷◌, foldl}
use Rattle.std.specs.Int.Signed.{lt_z}
use Rattle.lists.specs.Fill.{tab}
use Rattle.totals.specs.declared.Total.{Total}
use Rattle.channels.specs.Sample.{samples_of}

unfoldable pub sum_of : List ℤ → ℤ
sum_of [] = pos 0
sum_of (x ∷ samples) = x +ℤ sum_of samples

-- what a rule gives for each sample, added up; 0 for no samples
unfoldable pub added_of : (ℤ → ℕ) → List ℤ → ℕ
added_of rule [] = 0
added_of rule (x ∷ samples) = rule x + added_of rule samples

abbrev pub square_of : ℤ → ℕ
square_of x = nat_abs x * nat_abs x

abbrev pub squares_of : List ℤ → ℕ
squares_of samples = added_of square_of samples

-- the lesser and the greater of two numbers
unfoldable pub lesser : ℤ → ℤ → ℤ
lesser a b = cond (lt_z a b) a b

unfoldable pub greater : ℤ → ℤ → ℤ
greater a b = cond (lt_z b a) a b

-- the sample that a rule for two numbers keeps, of all of them in turn; 0 for no samples
unfoldable pub kept_of : (ℤ → ℤ → ℤ) → List ℤ → ℤ
kept_of rule [] = pos 0
kept_of rule (x ∷ samples) = foldl rule x samples

abbrev pub least_of : List ℤ → ℤ
least_of samples = kept_of lesser samples

abbrev pub greatest_of : List ℤ → ℤ
greatest_of samples = kept_of greater samples

-- two whole numbers are the same
unfoldable pub is_same : ℤ → ℤ → Bool
is_same (pos a) (pos b) = eqb a b
is_same (pos a) (negsuc b) = false
is_same (negsuc a) (pos b) = false
is_same (negsuc a) (negsuc b) = eqb a b

-- a sample at an end of the converter's range, -128 or 127, is clipped; `negsuc 127` is -128
unfoldable pub is_clipped : ℤ → Bool
is_clipped x = is_same x (negsuc 127) || is_same x (pos 127)

abbrev pub clipped_one : ℤ → ℕ
clipped_one x = cond (is_clipped x) 1 0

-- how many samples are clipped
abbrev pub clipped_of : List ℤ → ℕ
clipped_of samples = added_of clipped_one samples

unfoldable pub total_of : List ℤ → Total
total_of samples =
    record {
      sum = sum_of samples;
      squares = squares_of samples;
      least = least_of samples;
      greatest = greatest_of samples;
      clipped = clipped_of samples;
    }

-- the total of no samples
abbrev pub no_total : Total
no_total = record { sum = pos 0; squares = 0; least = pos 0; greatest = pos 0; clipped = 0 }

-- the totals of channels 1 to 4 over the first n samples of each
unfoldable pub totals_of : List ℕ → ℕ → List Total
totals_of stretch n = tab (λ (channel : ℕ). total_of (samples_of stretch channel n)) 1 4

-- the most samples a channel that one call takes: more than any record has
abbrev pub count_limit : ℕ
count_limit = 65536

-- the samples of each channel in a stretch, four bytes a set
abbrev pub set_count : List ℕ → ℕ
set_count stretch = min (length stretch / 4) count_limit
