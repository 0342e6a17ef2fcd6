-- No record has more than 1,000 samples of a channel. Assumes nothing.
use Prim.Native.Nat.{ℕ, ◌≤◌}
use mathlib.Core.Path.{sym, subst}
use mathlib.Core.List.{List}
use mathlib.Core.Logic.{⊎_elim}
use native.Mathlib.Omega.{arith}
use Rattle.fields.specs.Field.{value_of}
use Rattle.header.specs.Edition.{sample_rate}
use Rattle.sample_rates.specs.declared.SampleRate.{SampleRate}
use Rattle.sample_rates.specs.Rates.{samples_per_record, most_samples}
use Rattle.editions.proofs.Lines.{rate-line}
use Rattle.record.specs.Stretch.{record_rate, sample_count}

pub count_small : (n : ℕ) (b : List ℕ) → sample_count n b ≤ most_samples
unfolding record_rate
count_small n b =
    ⊎_elim (λ e. subst (λ (l : SampleRate). samples_per_record l ≤ most_samples) (sym e) (omega arith)) (λ l. l.most)
    (rate-line n (value_of (sample_rate n) b))
