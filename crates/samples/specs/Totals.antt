-- The totals of a record's samples, for each channel. FORMAT, "Samples".
use Rattle.std.specs.Prelude.{List, [], ◌∷◌, ℕ}
use Rattle.answers.specs.Answer.{Answer, unless}
use Rattle.record.specs.Record.{record_refusal}
use Rattle.record.specs.Stretch.{sample_count, stretch_of}
use Rattle.totals.specs.declared.Total.{Total}
use Rattle.totals.specs.Total.{no_total, totals_of}

-- beside a refusal: 0 throughout
abbrev pub no_totals : List Total
no_totals = no_total ∷ no_total ∷ no_total ∷ no_total ∷ []

-- the totals of channels 1 to 4 over all samples of the record b of the edition n, or its refusal
unfoldable pub totals_answer : ℕ → List ℕ → Answer (List Total)
totals_answer n b = unless (record_refusal n b) no_totals (totals_of (stretch_of n b) (sample_count n b))
