-- The parts of a block add up to it: three words and the payload are what the check covers, and its two bytes follow. Assumes
-- nothing.
use Prim.Native.Nat.{◌+◌}
use mathlib.Core.Path.{◌≡◌, refl}
use Rattle.block_check.specs.Check.{payload_at, block_bytes, payload_bytes, covered}

pub parts-add-up : (payload_at + payload_bytes ≡ covered) × (covered + 2 ≡ block_bytes)
parts-add-up = (refl, refl)
