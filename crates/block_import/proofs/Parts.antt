-- A block as a part of the bytes. Assumes nothing.
use Prim.Native.Nat.{ℕ, ◌+◌, ◌-◌, ◌*◌, ◌<◌}
use mathlib.Core.Path.{◌≡◌, ap, ◌∙◌}
use mathlib.Core.List.{List}
use native.Mathlib.Omega.{arith}
use lib.ListN.{length, take, drop}
use borrow.Rule.Slice.PartMut.{mid_len}
use Rattle.block_check.specs.Check.{block_bytes}
use Rattle.block_layout.specs.Carried.{block_at, whole_blocks}

-- from its start to its end, as the code cuts it
module _ (s : List ℕ) (i : ℕ) where
  pub block-part : take (block_bytes * i + block_bytes - block_bytes * i) (drop (block_bytes * i) s) ≡ block_at s i
  unfolding block_at
  block-part = ap (λ (k : ℕ). take k (drop (block_bytes * i) s)) (let e : block_bytes * i + block_bytes - block_bytes * i ≡ block_bytes = omega arith in e)

  pub block-length : i < whole_blocks s → length (take (block_bytes * i + block_bytes - block_bytes * i) (drop (block_bytes * i) s)) ≡ block_bytes
  block-length h = mid_len (block_bytes * i) (block_bytes * i + block_bytes) s (omega arith) ∙ (let e : block_bytes * i + block_bytes - block_bytes * i ≡ block_bytes = omega arith in e)
