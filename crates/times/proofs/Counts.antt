-- A phase count has 48 bits, so that its cycles are exact. Assumes nothing.
use Prim.Native.Nat.{ℕ, ◌%◌, ◌^◌, ◌<◌}
use mathlib.Core.Path.{◌≡◌, ap, subst, ◌∙◌}
use mathlib.Core.Bool.{false}
use mathlib.Core.List.{List}
use native.Mathlib.Nat.{mod-eq_of_lt}
use lib.Ieee.{Float}
use Rattle.fields.specs.declared.Field.{Field}
use Rattle.fields.specs.Field.{is_decimal, is_signed, bit_width, value_of}
use Rattle.fields.proofs.OneField.{value-lt}
use Rattle.phase.specs.Phase.{InCycles}

-- the cycles of what a binary field of 48 bits holds, of which so many are a fraction
pub exactly : (bits : ℕ) (f : Field) (b : List ℕ) → is_decimal f ≡ false → is_signed f ≡ false → bit_width f ≡ 48
    → (x : Float) (count : ℕ) → count ≡ value_of f b → InCycles bits (count % 2 ^ 48) x → InCycles bits (value_of f b) x
exactly bits f b binary unsigned wide x count e =
    subst (λ (m : ℕ). InCycles bits m x)
    (ap (λ (m : ℕ). m % 2 ^ 48) e ∙ mod-eq_of_lt (subst (λ (w : ℕ). value_of f b < 2 ^ w) wide (value-lt f b binary unsigned)))
