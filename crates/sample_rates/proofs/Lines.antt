-- The facts about rates, proved once over a table by one computed test. Assumes nothing.
use Prim.Native.Nat.{ℕ, ◌+◌, ◌*◌, ◌%◌, ◌≤◌}
use mathlib.Core.Path.{◌≡◌, refl}
use mathlib.Core.Bool.{Bool, true, false, cond}
use mathlib.Core.List.{List, [], ◌∷◌}
use mathlib.Core.Logic.{◌⊎◌, inl, inr}
use lib.Dec.{T, eqb, eqb→eq, leb→le}
use borrow.Author.Tests.{eqb-true}
use Rattle.lists.proofs.Truth.{left, right, each}
use Rattle.sample_rates.specs.declared.SampleRate.{SampleRate}
use Rattle.sample_rates.specs.Rates.{rates1985, rates1992, no_rate, line_in, rate_hz, records_per_second, samples_per_record, last_sample_word, words_a, words_b, most_samples, second_us, Layout, layout1985, layout1992, line_tests, sound_line, sound_lines}

-- what the test gives
pub record SoundLine (layout : Layout) (hz : ℕ) (l : SampleRate) : Type 0 where
  pub same : rate_hz l ≡ hz
  pub positive : 1 ≤ rate_hz l
  pub second : records_per_second l * samples_per_record l ≡ rate_hz l
  pub even : second_us % rate_hz l ≡ 0
  pub last : 2 * last_sample_word l ≡ layout.header-bytes + 4 * samples_per_record l
  pub shorter : words_a l ≡ last_sample_word l + layout.monitor-words
  pub longer : words_b l ≡ last_sample_word l + (layout.monitor-words + layout.offset-words)
  pub some : 1 ≤ samples_per_record l
  pub most : samples_per_record l ≤ most_samples

of_test : (layout : Layout) (hz : ℕ) (l : SampleRate) → rate_hz l ≡ hz → T (sound_line layout l) → SoundLine layout hz l
of_test layout hz l same t =
    record {
      same = same;
      positive = leb→le 1 (rate_hz l) (each (line_tests layout l) 0 t);
      second = eqb→eq _ _ (each (line_tests layout l) 1 t);
      even = eqb→eq _ _ (each (line_tests layout l) 2 t);
      last = eqb→eq _ _ (each (line_tests layout l) 3 t);
      shorter = eqb→eq _ _ (each (line_tests layout l) 4 t);
      longer = eqb→eq _ _ (each (line_tests layout l) 5 t);
      some = leb→le 1 (samples_per_record l) (each (line_tests layout l) 6 t);
      most = leb→le (samples_per_record l) most_samples (each (line_tests layout l) 7 t);
    }

-- a rate has a sound line, or no line
pub in_lines : (layout : Layout) (ls : List SampleRate) (hz : ℕ) → T (sound_lines layout ls)
    → (line_in ls hz ≡ no_rate) ⊎ SoundLine layout hz (line_in ls hz)
unfolding line_in
in_lines layout [] hz t = inl refl
in_lines layout (l ∷ ls) hz t = by-test (eqb l.hz hz) refl (in_lines layout ls hz (right (sound_line layout l) (sound_lines layout ls) t))
  where
    by-test : (b : Bool) → eqb l.hz hz ≡ b → (line_in ls hz ≡ no_rate) ⊎ SoundLine layout hz (line_in ls hz)
        → (cond b l (line_in ls hz) ≡ no_rate) ⊎ SoundLine layout hz (cond b l (line_in ls hz))
    by-test true p r = inr (of_test layout hz l (eqb-true l.hz hz p) (left (sound_line layout l) (sound_lines layout ls) t))
    by-test false p r = r

-- the one computed test, of each edition
pub sound-1985 : T (sound_lines layout1985 rates1985)
sound-1985 = tt

pub sound-1992 : T (sound_lines layout1992 rates1992)
sound-1992 = tt
