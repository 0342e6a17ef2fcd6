-- Whole numbers from -low to high. Assumes nothing.
use Prim.Native.Nat.{ℕ, zero, suc, ◌+◌, ◌-◌, ◌≤◌, ◌<◌}
use mathlib.Core.Bool.{Bool, true, false, cond}
use native.Mathlib.Omega.{arith}
use lib.Dec.{ltb}
use lib.IntN.{ℤ, pos, negsuc, neg_ℤ, ◌+ℤ◌}
use lib.Signed.{mag}

-- `negsuc n` is -(n + 1)
abbrev pub Between : ℕ → ℕ → ℤ → Type 0
Between low high (pos n) = n ≤ high
Between low high (negsuc n) = n < low

-- a natural number added moves the upper end only, as it may be 0
pub moved_up : (low high a : ℕ) (z : ℤ) → Between low high z → Between low (a + high) (pos a +ℤ z)
moved_up low high a (pos n) h = omega arith
moved_up low high a (negsuc n) h = by-test (ltb a (suc n))
  where
    by-test : (t : Bool) → Between low (a + high) (cond t (negsuc (suc n - suc a)) (pos (a - suc n)))
    by-test true = omega arith
    by-test false = omega arith

pub negated-between : (low high n : ℕ) → n ≤ low → Between low high (neg_ℤ (pos n))
negated-between low high zero h = omega arith
negated-between low high (suc n) h = omega arith

pub mag-between : (m : ℕ) (z : ℤ) → mag z < m → Between m m z
mag-between m (pos n) h = omega arith
mag-between m (negsuc n) h = h
