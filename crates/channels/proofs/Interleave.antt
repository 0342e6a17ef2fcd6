-- Where the samples of four channels lie among their bytes, and a stretch that is filled with them byte by byte. Assumes nothing.
use Prim.Native.Nat.{ℕ, zero, suc, ◌+◌, ◌*◌, ◌/◌, ◌%◌, ◌≤◌, ◌<◌}
use mathlib.Core.Path.{◌≡◌, refl, sym, ◌∙◌, subst}
use mathlib.Core.List.{List}
use native.Mathlib.Omega.{arith}
use lib.IntN.{ℤ, pos}
use lib.ListN.{get_or, length, set}
use Rattle.lists.proofs.Fill.{Filled, filled_more, tab-ext}
use Rattle.channels.specs.Sample.{byte_of, channel_of, interleaved_byte, interleaved}

-- four lists made by one rule of a list and its channel: channel c of them is made so of channel c
pub channel-of-each : (rule : List ℤ → ℕ → List ℤ) (one two three four : List ℤ) (c : ℕ) → 1 ≤ c → c ≤ 4
    → channel_of (rule one 1) (rule two 2) (rule three 3) (rule four 4) c ≡ rule (channel_of one two three four c) c
unfolding channel_of
channel-of-each rule one two three four zero l h = absurd (let z : ⊥ = omega arith in z)
channel-of-each rule one two three four (suc zero) l h = refl
channel-of-each rule one two three four (suc (suc zero)) l h = refl
channel-of-each rule one two three four (suc (suc (suc zero))) l h = refl
channel-of-each rule one two three four (suc (suc (suc (suc zero)))) l h = refl
channel-of-each rule one two three four (suc (suc (suc (suc (suc c))))) l h = absurd (let z : ⊥ = omega arith in z)

module _ (one two three four : List ℤ) where
  -- byte 4k + j is sample k of channel j + 1
  pub byte_at : (i k j : ℕ) → i ≡ 4 * k + j → j < 4
      → interleaved_byte one two three four i ≡ byte_of (get_or (channel_of one two three four (j + 1)) k (pos 0))
  byte_at i k j e h =
      let r : i % 4 ≡ j = omega (arith, e) in
      let q : i / 4 ≡ k = omega (arith, e) in
      λ t. byte_of (get_or (channel_of one two three four (r t + 1)) (q t) (pos 0))

  -- the first i bytes of l are those of the channels; the others are b's
  abbrev pub Bytes : List ℕ → ℕ → List ℕ → Type 0
  Bytes b i l = Filled b (interleaved_byte one two three four) 0 i l

  -- one byte more, i = 4k + j; m is the place after it
  pub bytes-more : {b l l' : List ℕ} (i m k j : ℕ) → (i ≡ 4 * k + j) × (j < 4) × (m ≡ i + 1) × (i < length b)
      → l' ≡ set l i (byte_of (get_or (channel_of one two three four (j + 1)) k (pos 0))) → Bytes b i l → Bytes b m l'
  bytes-more {b} {l} {l'} i m k j p s o =
      subst (λ (x : ℕ). Bytes b x l') (sym p.2)
      (subst (λ (x : List ℕ). Bytes b (i + 1) x) (sym s) (filled_more _ p.3 (sym (byte_at i k j p.0 p.1)) o))

  pub bytes-all : {b l : List ℕ} (n k : ℕ) → k ≡ n → length b ≡ 4 * n → Bytes b (4 * k) l → l ≡ interleaved n one two three four
  unfolding interleaved
  bytes-all {b} {l} n k e q o = tab-ext (interleaved_byte one two three four) (4 * n) 0 l (o.same
      ∙ q) (λ i h. o.low i (omega (arith, e)))
