-- Sizes worked by hand: the blocks of a record, and how much of the last one is used. FORMAT, "Cases worked by hand". And that of
-- the longest export, for which a buffer of 4,608 bytes is enough. Assumes nothing.
use Prim.Native.Nat.{ℕ, ◌≤◌}
use mathlib.Core.Path.{◌≡◌, refl}
use mathlib.Core.List.{List}
use native.Mathlib.Omega.{arith}
use lib.ListN.{length}
use Rattle.record.specs.Record.{record_refusal}
use Rattle.record.proofs.Accepted.{length-bounds}
use Rattle.block_layout.specs.Layout.{block_count, payload_length, exported_of}
use Rattle.block_layout.proofs.Exported.{length-blocks}

pub sizes-worked : (block_count 780 ≡ 2) × (payload_length 780 0 ≡ 504) × (payload_length 780 1 ≡ 276)
    × (block_count 4390 ≡ 9) × (payload_length 4390 8 ≡ 358) × (block_count 504 ≡ 1) × (block_count 505 ≡ 2)
sizes-worked = (refl, refl, refl, refl, refl, refl, refl)

pub longest-export : (n : ℕ) (r : List ℕ) → record_refusal n r ≡ 0 → length (exported_of r) ≤ 4608
longest-export n r fine = omega (arith, length-blocks r (block_count (length r)), length-bounds n r fine)
