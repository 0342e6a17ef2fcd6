-- Samples out to channels and in again give the stretch back. FORMAT, "Samples". Assumes nothing.
use Prim.Native.Nat.{ℕ, ◌+◌, ◌-◌, ◌*◌, ◌/◌, ◌%◌, ◌≤◌, ◌<◌}
use mathlib.Core.Path.{◌≡◌, ap, sym, ◌∙◌}
use mathlib.Core.List.{List, []}
use native.Mathlib.Omega.{arith}
use lib.IntN.{ℤ, pos}
use lib.ListN.{get_or, length}
use Rattle.lists.specs.Fill.{over}
use Rattle.lists.proofs.Fill.{get_or-tab, over-low, tab-ext}
use Rattle.channels.specs.Sample.{byte_of, signed_of, sample_of, samples_of, channel_of, interleaved_byte, interleaved}
use Rattle.channels.proofs.Interleave.{channel-of-each}
use Rattle.channels.proofs.Sign.{byte-of-signed}

module _ (s : List ℕ) (n : ℕ) (whole : length s ≡ 4 * n) (bytes : (i : ℕ) → get_or s i 0 < 256) where
  -- from any four lists whose first n entries are the samples
  pub out-then-in : (one two three four : List ℤ)
      → ((c k : ℕ) → 1 ≤ c → c ≤ 4 → k < n → get_or (channel_of one two three four c) k (pos 0) ≡ sample_of s c k)
      → interleaved n one two three four ≡ s
  unfolding interleaved
  out-then-in one two three four same = sym (tab-ext (interleaved_byte one two three four) (4 * n) 0 s whole (λ i h. sym (at i h)))
    where
      at : (i : ℕ) → i < 4 * n → interleaved_byte one two three four i ≡ get_or s i 0
      at i h =
          let e : 4 * (i / 4) + (i % 4 + 1 - 1) ≡ i = omega arith in
          ap byte_of (same (i % 4 + 1) (i / 4) (omega arith) (omega arith) (omega arith) ∙ ap (λ (j : ℕ). signed_of (get_or s j 0)) e)
          ∙ byte-of-signed (get_or s i 0) (bytes i)

  -- from the samples themselves
  pub samples-in : interleaved n (samples_of s 1 n) (samples_of s 2 n) (samples_of s 3 n) (samples_of s 4 n) ≡ s
  samples-in =
      out-then-in _ _ _ _
      (λ c k l h q. ap (λ (x : List ℤ). get_or x k (pos 0)) (channel-of-each (λ x c. samples_of s c n) [] [] [] [] c l h)
      ∙ get_or-tab (sample_of s c) n k (pos 0) q)

  -- from four buffers to which they went out
  pub buffers-in : (one two three four : List ℤ)
      → interleaved n (over one (sample_of s 1) n) (over two (sample_of s 2) n) (over three (sample_of s 3) n)
      (over four (sample_of s 4) n) ≡ s
  buffers-in one two three four =
      out-then-in _ _ _ _
      (λ c k l h q. ap (λ (x : List ℤ). get_or x k (pos 0))
      (channel-of-each (λ x c. over x (sample_of s c) n) one two three four c l h) ∙ over-low _ (sample_of s c) (pos 0) n k q)
