-- Block i of a run of bytes: its length and its bytes. Assumes nothing.
use Prim.Native.Nat.{ℕ, ◌+◌, ◌*◌, ◌<◌}
use mathlib.Core.Path.{◌≡◌, ◌∙◌}
use mathlib.Core.List.{List}
use mathlib.Core.Logic.{⊎_elim}
use native.Mathlib.Omega.{arith}
use lib.ListN.{length, get_or, drop, length-take, length-drop, get_or-eq_default}
use lib.Seq.{get_or-take, get_or-drop}
use Rattle.lists.proofs.Order.{le-or-lt}
use Rattle.block_check.specs.Check.{block_bytes}
use Rattle.block_layout.specs.Carried.{whole_blocks, block_at}

module _ (s : List ℕ) where
  pub length_at : (i : ℕ) → i < whole_blocks s → length (block_at s i) ≡ block_bytes
  unfolding block_at
  length_at i h = length-take block_bytes (drop (block_bytes * i) s) ∙ omega (arith, length-drop (block_bytes * i) s)

  pub byte_at : (i k : ℕ) → k < block_bytes → get_or (block_at s i) k 0 ≡ get_or s (block_bytes * i + k) 0
  unfolding block_at
  byte_at i k h = get_or-take block_bytes (drop (block_bytes * i) s) k 0 h ∙ get_or-drop (block_bytes * i) s k 0

  pub small_at : ((k : ℕ) → get_or s k 0 < 256) → (i : ℕ) → i < whole_blocks s → (k : ℕ) → get_or (block_at s i) k 0 < 256
  small_at bytes i h k =
      ⊎_elim (λ p. omega (arith, get_or-eq_default (block_at s i) 0 {n = k} (omega (arith, length_at i h))))
      (λ p. omega (arith, byte_at i k p, bytes (block_bytes * i + k))) (le-or-lt block_bytes k)
