-- Samples by their bytes. FORMAT, "Samples": sample k of channel c is byte 80 + 4k + (c - 1) in 1985 and 166 + 4k + (c - 1) in
-- 1992, a two's complement number. The claims are about the definitions that `read_samples` and the totals promise. Assumes
-- nothing.
use Prim.Native.Nat.{ℕ, ◌+◌, ◌-◌, ◌*◌, ◌≤◌, ◌<◌}
use mathlib.Core.Path.{◌≡◌, ◌∙◌, ap}
use mathlib.Core.List.{List}
use native.Mathlib.Omega.{arith}
use lib.IntN.{ℤ, pos}
use lib.ListN.{get_or, drop}
use lib.Seq.{get_or-take, get_or-drop}
use Rattle.lists.proofs.Fill.{over-low}
use Rattle.channels.specs.Sample.{signed_of, sample_of}
use Rattle.header.specs.Edition.{header_bytes}
use Rattle.record.specs.Stretch.{sample_count, stretch_of}
use Rattle.samples.specs.InOut.{channel_after}

module _ (n : ℕ) (b : List ℕ) (c k : ℕ) (above : 1 ≤ c) (below : c ≤ 4) (within : k < sample_count n b) where
  -- sample k of channel c of the record's stretch
  pub sample-byte : sample_of (stretch_of n b) c k ≡ signed_of (get_or b (header_bytes n + 4 * k + (c - 1)) 0)
  unfolding stretch_of
  sample-byte =
      ap signed_of
      (get_or-take (4 * sample_count n b) (drop (header_bytes n) b) (4 * k + (c - 1)) 0 (omega arith)
      ∙ get_or-drop (header_bytes n) b (4 * k + (c - 1)) 0
      ∙ ap (λ (i : ℕ). get_or b i 0) (omega arith))

  -- what an accepted `read_samples` leaves at place k of the buffer of channel c
  pub sample-read : (buffer : List ℤ)
      → get_or (channel_after 0 n b c buffer) k (pos 0) ≡ signed_of (get_or b (header_bytes n + 4 * k + (c - 1)) 0)
  unfolding channel_after
  sample-read buffer = over-low buffer (sample_of (stretch_of n b) c) (pos 0) (sample_count n b) k within ∙ sample-byte
