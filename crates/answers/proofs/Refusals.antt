-- Laws of refusals and answers. Assumes nothing.
use Prim.Native.Nat.{ℕ, zero, suc, ◌≤◌}
use mathlib.Core.Path.{◌≡◌, refl, ap, sym, ◌∙◌}
use mathlib.Core.Bool.{Bool, true, false, cond, ◌&&◌, true≢false}
use mathlib.Core.List.{List, [], ◌∷◌}
use native.Mathlib.Omega.{arith}
use lib.Dec.{T, eqb, leb, leb→le}
use lib.ListN.{get_or}
use Rattle.lists.proofs.Truth.{left, right}
use borrow.Author.Tests.{eq-eqb, ne_eqb, eqb-true, eqb-false}
use Rattle.answers.specs.Answer.{Answer, accepted, refused, told, unless}
use Rattle.answers.specs.declared.Refusal.{Refusal}
use Rattle.answers.specs.declared.Refusal.TheVariants.{
  TooShort,
  WrongLength,
  Not8Bits,
  Compressed,
  NoSuchRate,
  NotTheRatesLength,
  NumberZero,
  NoSuchDate,
  PastTheDay,
  NoDigit,
  WrongSync,
  NoSuchSample,
  WrongLimits,
  TooFewCells,
  OtherReel,
  NumberOutside,
  SecondOutside,
  SecondFull,
  NotHeld,
  NoSuchSegment,
  TextTooLong,
  ValueTooWide,
  SegmentNotNew,
  InputTooLong,
  NoSuchEdition,
  NoSegments,
  BadCheck,
  WrongBlocks,
}
use Rattle.answers.specs.Refused.{number_of}
use Rattle.answers.specs.Refusal.{Check, ◌when◌, first, ◌then◌}

-- the second refusal counts where the first is none
pub then-none : (n m : ℕ) → n ≡ 0 → n then m ≡ m
then-none n m e = ap (λ (t : Bool). cond t m n) (eq-eqb n 0 e)

pub then_some : (n m : ℕ) → (n ≡ 0 → ⊥) → n then m ≡ n
then_some n m e = ap (λ (t : Bool). cond t m n) (ne_eqb n 0 e)

-- where both are none
pub then-zero : (n m : ℕ) → n then m ≡ 0 → (n ≡ 0) × (m ≡ 0)
then-zero n m e = by-test (eqb n 0) refl e
  where
    by-test : (t : Bool) → eqb n 0 ≡ t → cond t m n ≡ 0 → (n ≡ 0) × (m ≡ 0)
    by-test true a z = (eqb-true n 0 a, z)
    by-test false a z = absurd (eqb-false n 0 a z)

-- a struct with a refusal's number gives no value
pub told_none : {A : Type 0} (n : ℕ) (empty : A) → 1 ≤ n → told n empty ≡ refused empty n
told_none {A} n empty above = ap (λ (t : Bool). record { number = n; value = empty; given = t })
    (ne_eqb n 0 (λ z. omega (arith, z)))

module _ {A : Type 0} (n : ℕ) (empty v : A) where
  pub unless-none : n ≡ 0 → accepted v ≡ unless n empty v
  unless-none e = sym (ap (λ (t : Bool). cond t (accepted v) (refused empty n)) (eq-eqb n 0 e))

  pub unless-some : (n ≡ 0 → ⊥) → refused empty n ≡ unless n empty v
  unless-some e = sym (ap (λ (t : Bool). cond t (accepted v) (refused empty n)) (ne_eqb n 0 e))

  -- what is kept or changed by whether there is a refusal
  pub cond-none : n ≡ 0 → cond (eqb n 0) v empty ≡ v
  cond-none e = ap (λ (t : Bool). cond t v empty) (eq-eqb n 0 e)

  pub cond-some : (n ≡ 0 → ⊥) → cond (eqb n 0) v empty ≡ empty
  cond-some e = ap (λ (t : Bool). cond t v empty) (ne_eqb n 0 e)

  -- what gives a value gives that one, and nothing is refused
  pub given-value : (x : A) → accepted x ≡ unless n empty v → (n ≡ 0) × (x ≡ v)
  given-value x e = by-test (eqb n 0) refl e
    where
      by-test : (t : Bool) → eqb n 0 ≡ t → accepted x ≡ cond t (accepted v) (refused empty n) → (n ≡ 0) × (x ≡ v)
      by-test true a z = (eqb-true n 0 a, ap (λ (y : Answer A). y.value) z)
      by-test false a z = absurd (true≢false (ap (λ (y : Answer A). y.given) z))

-- ## results

-- no refusal has the number 0
pub numbered-above : (r : Refusal) → 1 ≤ number_of r
numbered-above r = leb→le 1 (number_of r) (by-variant r)
  where
    by-variant : (r : Refusal) → T (leb 1 (number_of r))
    by-variant TooShort = tt
    by-variant WrongLength = tt
    by-variant Not8Bits = tt
    by-variant Compressed = tt
    by-variant NoSuchRate = tt
    by-variant NotTheRatesLength = tt
    by-variant NumberZero = tt
    by-variant NoSuchDate = tt
    by-variant PastTheDay = tt
    by-variant NoDigit = tt
    by-variant WrongSync = tt
    by-variant NoSuchSample = tt
    by-variant WrongLimits = tt
    by-variant TooFewCells = tt
    by-variant OtherReel = tt
    by-variant NumberOutside = tt
    by-variant SecondOutside = tt
    by-variant SecondFull = tt
    by-variant NotHeld = tt
    by-variant NoSuchSegment = tt
    by-variant TextTooLong = tt
    by-variant ValueTooWide = tt
    by-variant SegmentNotNew = tt
    by-variant InputTooLong = tt
    by-variant NoSuchEdition = tt
    by-variant NoSegments = tt
    by-variant BadCheck = tt
    by-variant WrongBlocks = tt

-- a call that goes on after `?`
pub then-ok : (n m k : ℕ) → 0 ≡ n → k ≡ m → k ≡ n then m
then-ok n m k e q = q ∙ sym (then-none n m (sym e))

module _ {A : Type 0} (n : ℕ) (empty v : A) where
  pub answer-ok : 0 ≡ n → accepted v ≡ unless n empty v
  answer-ok e = unless-none n empty v (sym e)

-- ## how large a number can be

-- whether no check has a number above m
abbrev pub up_to : ℕ → List Check → Bool
up_to m [] = true
up_to m (c ∷ cs) = leb c.number m && up_to m cs

pub first-most : (m : ℕ) (cs : List Check) → T (up_to m cs) → first cs ≤ m
first-most m [] t = omega arith
first-most m (c ∷ cs) t =
    by-test c.applies (leb→le c.number m (left (leb c.number m) (up_to m cs) t))
    (first-most m cs (right (leb c.number m) (up_to m cs) t))
  where
    by-test : (b : Bool) → c.number ≤ m → first cs ≤ m → cond b c.number (first cs) ≤ m
    by-test true p q = p
    by-test false p q = q

pub then-most : (n m k : ℕ) → n ≤ k → m ≤ k → (n then m) ≤ k
then-most n m k p q = by-test (eqb n 0)
  where
    by-test : (t : Bool) → cond t m n ≤ k
    by-test true = q
    by-test false = p

-- ## no refusal

-- whether each check has a number of its own, so that 0 means none
abbrev pub numbered : List Check → Bool
numbered [] = true
numbered (c ∷ cs) = leb 1 c.number && numbered cs

abbrev pub no_check : Check
no_check = 0 when false

-- where the first that applies is none, no check applies
head-none : (b : Bool) (n m : ℕ) → 1 ≤ n → cond b n m ≡ 0 → (b ≡ false) × (m ≡ 0)
head-none true n m h e = absurd (let z : ⊥ = omega (arith, e) in z)
head-none false n m h e = (refl, e)

module _ (c : Check) (cs : List Check) (t : T (numbered (c ∷ cs))) (e : first (c ∷ cs) ≡ 0) where
  here : (c.applies ≡ false) × (first cs ≡ 0)
  here = head-none c.applies c.number (first cs) (leb→le 1 c.number (left (leb 1 c.number) (numbered cs) t)) e

pub none-applies : (cs : List Check) (k : ℕ) → T (numbered cs) → first cs ≡ 0 → (get_or cs k no_check).applies ≡ false
none-applies [] k t e = refl
none-applies (c ∷ cs) zero t e = (here c cs t e).0
none-applies (c ∷ cs) (suc k) t e = none-applies cs k (right (leb 1 c.number) (numbered cs) t) (here c cs t e).1
