-- Tests that are computed, taken apart and put together. Assumes nothing.
use mathlib.Core.Path.{◌≡◌, refl, sym, subst}
use mathlib.Core.Bool.{true≢false, Bool, true, false, not, ◌&&◌, ◌||◌}
use mathlib.Core.Logic.{◌⊎◌, inl, inr}
use mathlib.Core.List.{List, [], ◌∷◌}
use Prim.Native.Nat.{ℕ, zero, suc}
use lib.Dec.{T}
use lib.ListN.{get_or}
use Rattle.lists.specs.Tests.{all}

pub left : (a b : Bool) → T (a && b) → T a
left true b t = tt
left false b t = t

pub right : (a b : Bool) → T (a && b) → T b
right true b t = t
right false b t = absurd t

pub both : (a b : Bool) → T a → T b → T (a && b)
both true b p q = q
both false b p q = absurd p

pub either : (a b : Bool) → T (a || b) → T a ⊎ T b
either true b t = inl tt
either false b t = inr t

-- a test that holds is true, and one that does not is false
pub holds : (a : Bool) → T a → a ≡ true
holds true t = refl
holds false t = absurd t

pub fails : (a : Bool) → T (not a) → a ≡ false
fails true t = absurd t
fails false t = refl

pub held : (a : Bool) → a ≡ true → T a
held a e = subst T (sym e) tt

pub and-true : (a : Bool) → a && true ≡ a
and-true true = refl
and-true false = refl

pub and_assoc : (a b c : Bool) → (a && b) && c ≡ a && (b && c)
and_assoc true b c = refl
and_assoc false b c = refl

-- each of a list of tests that all hold
pub each : (bs : List Bool) (k : ℕ) → T (all bs) → T (get_or bs k true)
each [] k t = tt
each (b ∷ bs) zero t = left b (all bs) t
each (b ∷ bs) (suc k) t = each bs k (right b (all bs) t)

pub and-false : (a b : Bool) → a && b ≡ false → (a ≡ false) ⊎ (b ≡ false)
and-false true b e = inr e
and-false false b e = inl refl

pub or-false : (a b : Bool) → a || b ≡ false → (a ≡ false) × (b ≡ false)
or-false true b e = absurd (true≢false e)
or-false false b e = (refl, e)

-- each from the other
infixl 20 ◌exactly-when◌
abbrev pub ◌exactly-when◌ : Type 0 → Type 0 → Type 0
A exactly-when B = (A → B) × (B → A)
