-- A check worked by hand, of 23 bytes of 255 with zeros behind them: 255 times 276 is 70,380, and that less 65,521 is 4,859. It
-- fixes the modulus, and that places are counted from 1. FORMAT, "Cases worked by hand". Assumes nothing.
use Prim.Native.Nat.{ℕ}
use mathlib.Core.Path.{◌≡◌, refl}
use Rattle.lists.specs.Fill.{tab}
use Rattle.block_check.specs.Check.{weighted, check_of}

pub check-worked : check_of (tab (λ (k : ℕ). 255) 0 23) ≡ 4859
unfolding weighted
check-worked = refl
