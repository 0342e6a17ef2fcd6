-- Samples out and in again, and in and out again. FORMAT, "Samples". The claims are about the definitions that `read_samples` and
-- `write_samples` promise. Assumes nothing.
use Prim.Native.Nat.{ℕ, ◌≤◌, ◌<◌}
use mathlib.Core.Path.{◌≡◌, ◌∙◌}
use mathlib.Core.List.{List, ◌++◌}
use lib.IntN.{ℤ, pos}
use lib.ListN.{length, get_or, take, drop}
use lib.Signed.{mag}
use Rattle.header.specs.Edition.{header_bytes}
use Rattle.channels.specs.Sample.{channel_of}
use Rattle.record.specs.Stretch.{sample_count}
use Rattle.samples.specs.InOut.{samples_refusal, channel_after, record_after}
use Rattle.samples.proofs.Trips.{back, written-first, written-refusal, written-samples}

-- what both functions answer for the record b of the edition n and four buffers
abbrev pub refusal_for : ℕ → List ℕ → List ℤ → List ℤ → List ℤ → List ℤ → ℕ
refusal_for n b one two three four = samples_refusal n b (length one) (length two) (length three) (length four)

-- what `read_samples` of b leaves in the buffer of channel c
abbrev pub samples_out : ℕ → List ℕ → List ℤ → List ℤ → List ℤ → List ℤ → ℕ → List ℤ
samples_out n b one two three four c = channel_after (refusal_for n b one two three four) n b c (channel_of one two three four c)

-- what `write_samples` leaves in the record b
abbrev pub samples_in : ℕ → List ℕ → List ℤ → List ℤ → List ℤ → List ℤ → List ℕ
samples_in n b one two three four = record_after (refusal_for n b one two three four) n b one two three four

module _ (n : ℕ) (b : List ℕ) (one two three four : List ℤ) where
  -- OUT THEN IN changes no byte: of any bytes, with any four buffers
  pub out-then-in : ((i : ℕ) → get_or b i 0 < 256)
      → samples_in n b (samples_out n b one two three four 1) (samples_out n b one two three four 2)
      (samples_out n b one two three four 3) (samples_out n b one two three four 4) ≡ b
  unfolding channel_of
  out-then-in bytes = back n b one two three four bytes

  -- IN THEN OUT: where the samples of the four channels go in,
  module _ (accepted : refusal_for n b one two three four ≡ 0) where
    -- the record keeps every byte of its header,
    pub header-kept : take (header_bytes n) (samples_in n b one two three four) ≡ take (header_bytes n) b
    header-kept = written-first n b one two three four accepted

    -- is judged as before, with any four buffers,
    pub refusal-kept : (w x y z : List ℤ) → refusal_for n (samples_in n b one two three four) w x y z ≡ refusal_for n b w x y z
    refusal-kept w x y z = written-refusal n b one two three four accepted (length w) (length x) (length y) (length z)

    -- and gives each channel its first samples back, in any four buffers that hold them; places past them stay
    -- (mag x < 128 says that x is from -128 to 127, as a signed byte is)
    pub in-then-out : (w x y z : List ℤ) → refusal_for n b w x y z ≡ 0
        → (c : ℕ) → 1 ≤ c → c ≤ 4 → ((k : ℕ) → mag (get_or (channel_of one two three four c) k (pos 0)) < 128)
        → samples_out n (samples_in n b one two three four) w x y z c ≡ take (sample_count n b) (channel_of one two three four c)
        ++ drop (sample_count n b) (channel_of w x y z c)
    in-then-out w x y z e c l h signed =
        written-samples n b one two three four accepted c l h signed _ (channel_of w x y z c) (refusal-kept w x y z ∙ e)
