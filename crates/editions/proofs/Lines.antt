-- The line of a sample rate in an edition is sound, or there is none. Assumes nothing.
use Prim.Native.Nat.{ℕ}
use mathlib.Core.Path.{◌≡◌}
use mathlib.Core.Logic.{◌⊎◌}
use lib.Dec.{T}
use Rattle.sample_rates.specs.Rates.{no_rate, sound_lines}
use Rattle.sample_rates.proofs.Lines.{SoundLine, in_lines, sound-1985, sound-1992}
use Rattle.header.specs.Edition.{layout_of, rates_of}
use Rattle.header.proofs.Sound.{of-editions}
use Rattle.editions.specs.Rates.{sample_rate_of}

rates-sound : (n : ℕ) → T (sound_lines (layout_of n) (rates_of n))
rates-sound = of-editions (λ e. T (sound_lines e.layout e.rate-lines)) sound-1985 sound-1992

pub rate-line : (n hz : ℕ) → (sample_rate_of n hz ≡ no_rate) ⊎ SoundLine (layout_of n) hz (sample_rate_of n hz)
unfolding sample_rate_of
rate-line n hz = in_lines (layout_of n) (rates_of n) hz (rates-sound n)
