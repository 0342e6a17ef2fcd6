-- The means of a second worked out from nothing, over the samples of the ledger's records: their sum, and the sum of their
-- squares, over their number. No cell is read, and no count but that of the samples themselves. FORMAT, "The ledger".
use Rattle.std.specs.Prelude.{ℕ, not, ℤ, length}
use mathlib.Core.List.{List, [], ◌∷◌, flat_map}
use Rattle.lists.specs.Fill.{tab}
use Rattle.answers.specs.Answer.{Answer, unless}
use Rattle.answers.specs.Refusal.{◌when◌, first}
use Rattle.totals.specs.Total.{total_of}
use Rattle.index_model.specs.declared.Opening.{Opening}
use Rattle.index_model.specs.Opening.{in_window}
use Rattle.index_model.specs.Records.{channel_samples}
use Rattle.index_model.specs.Ledger.{Ledger, records_of}
use Rattle.index_means.specs.declared.Means.{Means}
use Rattle.index_means.specs.Means.{means_of, no_means_each}

-- of some samples: both 0 for none
abbrev pub sample_means : List ℤ → Means
sample_means samples = means_of (total_of samples) (length samples)

-- of channels 1 to 4 of second s, over all samples of its records
unfoldable pub ledger_means : Opening → Ledger → ℕ → List Means
ledger_means o ledger s =
    tab (λ (channel : ℕ). sample_means (flat_map (channel_samples channel) (records_of ledger s o.highest_number))) 1 4

-- 17 outside the window
unfoldable pub ledger_means_answer : Opening → Ledger → ℕ → Answer (List Means)
ledger_means_answer o ledger s = unless (first (17 when not (in_window o s) ∷ [])) no_means_each (ledger_means o ledger s)
