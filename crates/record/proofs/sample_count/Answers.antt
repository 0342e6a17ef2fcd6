use Prim.Native.Nat.{ℕ, ◌≤◌}
use mathlib.Core.Path.{ap, sym, subst}
use Rattle.sample_rates.specs.Rates.{samples_per_record, most_samples}
use Rattle.record.proofs.Count.{count_small}
use Rattle.record.proofs.sample_count.Goals as goal

pub returns : goal.returns
returns c =
    let e = ap samples_per_record c.rate_of-rate.ensures in
    (e, subst (λ (n : ℕ). n ≤ most_samples) (sym e) (count_small _ _))
