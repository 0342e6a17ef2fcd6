-- A channel's total read from its cells, and the samples that a second can have at most. Assumes nothing.
use Prim.Native.Nat.{ℕ, suc, ◌-◌, ◌*◌, ◌≤◌, ◌<◌}
use mathlib.Core.Path.{◌≡◌, sym, ◌∙◌, subst}
use mathlib.Core.Bool.{Bool, true, false, cond}
use mathlib.Core.Logic.{⊎_elim}
use native.Mathlib.Nat.{mul-le-mul}
use native.Mathlib.Omega.{arith}
use lib.Dec.{ltb}
use lib.IntN.{ℤ, pos, negsuc, nat_abs, ◌-ℤ◌}
use mir.Syntax.{w64}
use mir.Val.{SFits, to_z, of_z}
use mir.ValLaws.{to_z_pos, to_z-of_z}
use Rattle.sample_rates.specs.declared.SampleRate.{SampleRate}
use Rattle.sample_rates.specs.Rates.{samples_per_record, most_samples}
use Rattle.editions.specs.Rates.{sample_rate_of}
use Rattle.editions.proofs.Lines.{rate-line}
use Rattle.index_model.specs.Cells.{cell_limit, sample_offset}
use Rattle.index_model.proofs.Differences.{minus-sub}
use Rattle.index_query.specs.Inner.{sample_limit}
use Rattle.floats.specs.Whole.{exact_limit}

-- ## counts

-- what a line of the table of rates says at most
samples-most : (n hz : ℕ) → samples_per_record (sample_rate_of n hz) ≤ most_samples
samples-most n hz =
    ⊎_elim (λ e. subst (λ (l : SampleRate). samples_per_record l ≤ most_samples) (sym e) (omega arith)) (λ l. l.most) (rate-line n hz)

pub count_most : (records n hz : ℕ) (rate : SampleRate) → rate ≡ sample_rate_of n hz → records < cell_limit
    → records * samples_per_record rate ≤ sample_limit
count_most records n hz rate e h =
    mul-le-mul {n₁ = records} {m₁ = samples_per_record rate} {n₂ = cell_limit} {m₂ = most_samples} (omega arith)
    (subst (λ (l : SampleRate). samples_per_record l ≤ most_samples) (sym e) (samples-most n hz))

-- ## the sum

difference-fits : (a b : ℕ) → a < cell_limit → b ≤ sample_offset * sample_limit → SFits w64 (pos a -ℤ pos b)
difference-fits a b p q = subst (SFits w64) (sym (minus-sub a b)) (by-test (ltb a b))
  where
    by-test : (t : Bool) → SFits w64 (cond t (negsuc (b - suc a)) (pos (a - b)))
    by-test true = record { sfits = omega arith }
    by-test false = record { sfits = omega arith }

difference-exact : (a b : ℕ) → a < cell_limit → b ≤ sample_offset * sample_limit → nat_abs (pos a -ℤ pos b) ≤ exact_limit
difference-exact a b p q = subst (λ (z : ℤ). nat_abs z ≤ exact_limit) (sym (minus-sub a b)) (by-test (ltb a b))
  where
    by-test : (t : Bool) → nat_abs (cond t (negsuc (b - suc a)) (pos (a - b))) ≤ exact_limit
    by-test true = omega arith
    by-test false = omega arith

module _ (x count : ℕ) (p : x < cell_limit) (q : count ≤ sample_limit) where
  read : to_z w64 x -ℤ to_z w64 (sample_offset * count) ≡ pos x -ℤ pos (sample_offset * count)
  read = λ t. to_z_pos w64 x (omega arith) t -ℤ to_z_pos w64 (sample_offset * count) (omega arith) t

  pub sum_fits : SFits w64 (to_z w64 x -ℤ to_z w64 (sample_offset * count))
  sum_fits = subst (SFits w64) (sym read) (difference-fits x (sample_offset * count) p (omega arith))

  pub sum_read : to_z w64 (of_z w64 (to_z w64 x -ℤ to_z w64 (sample_offset * count))) ≡ pos x -ℤ pos (sample_offset * count)
  sum_read = to_z-of_z w64 (to_z w64 x -ℤ to_z w64 (sample_offset * count)) sum_fits ∙ read

  pub sum_exact : nat_abs (to_z w64 (of_z w64 (to_z w64 x -ℤ to_z w64 (sample_offset * count)))) ≤ exact_limit
  sum_exact = subst (λ (z : ℤ). nat_abs z ≤ exact_limit) (sym sum_read) (difference-exact x (sample_offset * count) p (omega arith))
