-- A second's totals and verdict, as a question about it answers: records, records with clock origin 1, records with copy error 1,
-- and for each channel sum, sum of squares, least, greatest and clipped samples over all samples. FORMAT, "The index of seconds".
use Rattle.std.specs.Prelude.{ℕ, Bool, false, List, [], ◌∷◌}
use Rattle.totals.specs.declared.Total.{Total}
use Rattle.totals.specs.Total.{no_total}

pub record SecondTotals : Type 0 where
  pub records : ℕ
  pub origins : ℕ
  pub errors : ℕ
  pub channels : List Total  -- channels 1 to 4
  pub kept : Bool

-- beside a refusal: 0 throughout
abbrev pub no_second : SecondTotals
no_second =
    record { records = 0; origins = 0; errors = 0; channels = no_total ∷ no_total ∷ no_total ∷ no_total ∷ []; kept = false }
