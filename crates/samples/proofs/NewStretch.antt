-- A record with another stretch of the same length: its header and length are as before, and its stretch is the new one.
-- Assumes nothing.
use Prim.Native.Nat.{ℕ, ◌+◌, ◌*◌, ◌≤◌}
use mathlib.Core.Path.{◌≡◌, ◌∙◌}
use mathlib.Core.List.{List, ◌++◌}
use native.Mathlib.Omega.{arith}
use lib.ListN.{length, take, drop, length-append, length-drop}
use lib.Seq.{length-take-le, take_at, drop_at}
use Rattle.header.specs.Edition.{header_bytes}
use Rattle.record.specs.Record.{record_refusal}
use Rattle.record.specs.Stretch.{sample_count, stretch_of, with_stretch}
use Rattle.samples.proofs.FirstBytes.{same-refusal, same_count}

module _
    (n : ℕ)
    (b : List ℕ)
    (inside : header_bytes n + 4 * sample_count n b ≤ length b)
    (stretch : List ℕ)
    (fits : length stretch ≡ 4 * sample_count n b) where
  abbrev rest : List ℕ
  rest = drop (header_bytes n + 4 * sample_count n b) b

  header-length : length (take (header_bytes n) b) ≡ header_bytes n
  header-length = length-take-le (header_bytes n) b (omega arith)

  new-length : length (with_stretch n b stretch) ≡ length b
  unfolding with_stretch
  new-length =
      let all = length-append (take (header_bytes n) b) (stretch ++ rest) in
      omega (arith, fits, header-length, all, length-append stretch rest, length-drop (header_bytes n + 4 * sample_count n b) b)

  pub new-first : take (header_bytes n) (with_stretch n b stretch) ≡ take (header_bytes n) b
  unfolding with_stretch
  new-first = take_at (take (header_bytes n) b) (stretch ++ rest) (header_bytes n) header-length

  pub new-refusal : record_refusal n (with_stretch n b stretch) ≡ record_refusal n b
  new-refusal = same-refusal n (with_stretch n b stretch) b new-first new-length

  pub new-count : sample_count n (with_stretch n b stretch) ≡ sample_count n b
  new-count = same_count n (with_stretch n b stretch) b new-first

  new-rest : drop (header_bytes n) (with_stretch n b stretch) ≡ stretch ++ rest
  unfolding with_stretch
  new-rest = drop_at (take (header_bytes n) b) (stretch ++ rest) (header_bytes n) header-length

  pub new-stretch : stretch_of n (with_stretch n b stretch) ≡ stretch
  unfolding stretch_of
  new-stretch = (λ i. take (4 * new-count i) (new-rest i)) ∙ take_at stretch rest (4 * sample_count n b) fits
