-- Samples in from channels and out again give the channels back. FORMAT, "Samples". Assumes nothing.
use Prim.Native.Nat.{ℕ, ◌+◌, ◌-◌, ◌*◌, ◌≤◌, ◌<◌}
use mathlib.Core.Path.{◌≡◌, refl, ap, sym, ◌∙◌}
use mathlib.Core.List.{List, ◌++◌}
use native.Mathlib.Omega.{arith}
use lib.IntN.{ℤ, pos}
use lib.ListN.{get_or, length, take, drop, length-take}
use lib.Seq.{get_or-take}
use lib.Signed.{mag}
use Rattle.lists.specs.Fill.{over}
use Rattle.lists.proofs.Fill.{get_or-tab, tab-ext}
use Rattle.channels.specs.Sample.{byte_of, signed_of, sample_of, samples_of, channel_of, interleaved_byte, interleaved}
use Rattle.channels.proofs.Interleave.{byte_at}
use Rattle.channels.proofs.Sign.{signed-of-byte}

module _ (one two three four : List ℤ) (n c : ℕ) (least : 1 ≤ c) (most : c ≤ 4) where
  -- one sample, from -128 to 127
  pub in-then-out : (k : ℕ) → k < n → mag (get_or (channel_of one two three four c) k (pos 0)) < 128
      → sample_of (interleaved n one two three four) c k ≡ get_or (channel_of one two three four c) k (pos 0)
  unfolding interleaved
  in-then-out k h f =
      let e : c - 1 + 1 ≡ c = omega arith in
      ap signed_of
      (get_or-tab (interleaved_byte one two three four) (4 * n) (4 * k + (c - 1)) 0 (omega arith)
      ∙ byte_at one two three four (4 * k + (c - 1)) k (c - 1) refl (omega arith)
      ∙ ap (λ (j : ℕ). byte_of (get_or (channel_of one two three four j) k (pos 0))) e)
      ∙ signed-of-byte (get_or (channel_of one two three four c) k (pos 0)) f

  -- all n of them
  pub samples-out : n ≤ length (channel_of one two three four c)
      → ((k : ℕ) → mag (get_or (channel_of one two three four c) k (pos 0)) < 128)
      → samples_of (interleaved n one two three four) c n ≡ take n (channel_of one two three four c)
  samples-out h f =
      sym
      (tab-ext (sample_of (interleaved n one two three four) c) n (pos 0) (take n (channel_of one two three four c))
      (simp length-take (omega arith))
      (λ k q. (rw get_or-take) ∙ sym (in-then-out k q (f k))))

  -- a buffer to which they go out
  pub buffer-out : (buffer : List ℤ) → n ≤ length (channel_of one two three four c)
      → ((k : ℕ) → mag (get_or (channel_of one two three four c) k (pos 0)) < 128)
      → over buffer (sample_of (interleaved n one two three four) c) n ≡ take n (channel_of one two three four c) ++ drop n buffer
  unfolding over
  buffer-out buffer h f = ap (λ (x : List ℤ). x ++ drop n buffer) (samples-out h f)
