-- A byte and its signed reading: each gives the other back. Assumes nothing.
use Prim.Native.Nat.{ℕ, suc, ◌-◌, ◌≤◌, ◌<◌}
use mathlib.Core.Path.{◌≡◌, refl, ap, ◌∙◌}
use mathlib.Core.Bool.{Bool, true, false, cond}
use mathlib.Core.Logic.{⊎_elim}
use native.Mathlib.Omega.{arith}
use lib.Dec.{ltb}
use lib.IntN.{ℤ, pos, negsuc}
use lib.Signed.{mag}
use mir.Syntax.{w8}
use mir.Val.{sel, to_z, of_z}
use borrow.Author.Tests.{lt-ltb, le-ltb}
use Rattle.lists.proofs.Order.{le-or-lt}
use Rattle.channels.specs.Sample.{signed_of, byte_of}

-- as the library casts
pub signed-cast : (b : ℕ) → to_z w8 b ≡ signed_of b
unfolding signed_of
signed-cast b = by-test (ltb b 128)
  where
    by-test : (t : Bool) → sel t (pos b) (negsuc (256 - suc b)) ≡ cond t (pos b) (negsuc (255 - b))
    by-test true = refl
    by-test false = ap negsuc (let e : 256 - suc b ≡ 255 - b = omega arith in e)

pub byte-cast : (x : ℤ) → of_z w8 x ≡ byte_of x
unfolding byte_of
byte-cast (pos n) = refl
byte-cast (negsuc n) = omega arith

pub signed_low : (b : ℕ) → b < 128 → signed_of b ≡ pos b
unfolding signed_of
signed_low b h = ap (λ (t : Bool). cond t (pos b) (negsuc (255 - b))) (lt-ltb b 128 h)

pub signed_high : (b : ℕ) → 128 ≤ b → signed_of b ≡ negsuc (255 - b)
unfolding signed_of
signed_high b h = ap (λ (t : Bool). cond t (pos b) (negsuc (255 - b))) (le-ltb b 128 h)

pub byte-of-signed : (b : ℕ) → b < 256 → byte_of (signed_of b) ≡ b
unfolding byte_of
byte-of-signed b h = ⊎_elim (λ p. omega (arith, ap byte_of (signed_high b p))) (λ p. ap byte_of (signed_low b p)) (le-or-lt 128 b)

-- mag x < 128 says that x is from -128 to 127
pub signed-of-byte : (x : ℤ) → mag x < 128 → signed_of (byte_of x) ≡ x
unfolding byte_of
signed-of-byte (pos n) h = signed_low n h
signed-of-byte (negsuc n) h = signed_high (255 - n) (omega arith) ∙ ap negsuc (let e : 255 - (255 - n) ≡ n = omega arith in e)
