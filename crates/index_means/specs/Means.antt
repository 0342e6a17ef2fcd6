-- The mean and the mean square of each channel of a second, each one division of two whole numbers held exactly; both are 0 for
-- no samples. FORMAT, "The index of seconds". A question about them is refused as one about the second's totals is: 13, 14, 17.
use Rattle.std.specs.Prelude.{ℕ, ◌*◌, false, cond, List, [], ◌∷◌, map, eqb, pos}
use Rattle.std.specs.Float.{fin}
use Rattle.floats.specs.Whole.{quotient_of}
use Rattle.sample_rates.specs.Rates.{samples_per_record}
use Rattle.answers.specs.Answer.{Answer, unless}
use Rattle.totals.specs.declared.Total.{Total}
use Rattle.index_model.specs.declared.Opening.{Opening}
use Rattle.index_model.specs.Opening.{held_rate}
use Rattle.index_model.specs.Second.{SecondTotals}
use Rattle.index_model.specs.Buffers.{Buffers}
use Rattle.index_model.specs.Calls.{query_answer}
use Rattle.index_means.specs.declared.Means.{Means}

-- both 0
abbrev pub no_means : Means
no_means = record { mean = fin false 0 (pos 0); mean_square = fin false 0 (pos 0) }

-- the sum over the count, and the sum of squares over the count; both 0 for no samples
unfoldable pub means_of : Total → ℕ → Means
means_of total count =
    cond (eqb count 0) no_means
    (record { mean = quotient_of total.sum count; mean_square = quotient_of (pos total.squares) count })

-- the means of each of the channels' totals
abbrev pub each_means : List Total → ℕ → List Means
each_means totals count = map (λ (total : Total). means_of total count) totals

-- beside a refusal
abbrev pub no_means_each : List Means
no_means_each = no_means ∷ no_means ∷ no_means ∷ no_means ∷ []

-- of a second: its totals over the samples that its records have of each channel
abbrev pub second_means : Opening → SecondTotals → List Means
second_means o s = each_means s.channels (s.records * samples_per_record (held_rate o))

-- what a question about them answers, by what a question about the second does
abbrev pub means_by : Opening → Answer SecondTotals → Answer (List Means)
means_by o a = unless a.number no_means_each (second_means o a.value)

unfoldable pub means_answer : Opening → ℕ → Buffers → Answer (List Means)
means_answer o s c = means_by o (query_answer o s c)
