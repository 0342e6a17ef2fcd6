-- Least and greatest: each is one of the samples, and bounds them all. Assumes nothing.
use Prim.Native.Nat.{◌<◌}
use mathlib.Core.Path.{◌≡◌, refl, ◌∙◌}
use mathlib.Core.Bool.{Bool, true, false, not, cond}
use mathlib.Core.List.Memᴰ
use mathlib.Core.List.{List, [], ◌∷◌, foldl, Memᴰ}
use mathlib.Core.Logic.{◌⊎◌, inl, inr, ⊎_elim}
use native.Mathlib.Nat.{le_trans, lt_irrefl}
use native.Mathlib.Omega.{arith}
use lib.Dec.{T, leb→le, le→leb, ltb→lt}
use lib.IntN.{ℤ, pos, negsuc}
use lib.ListN.{length}
use lib.Signed.{lt_z, le_z, ◌≤ℤ◌, lt_z_no, ≤ℤ_refl}
use mir.Syntax.{w8}
use mir.Val.{SFits}
use mir.Facts.{sfits_lit}
use borrow.Author.Tests.{le-ltb}
use Rattle.std.specs.Int.{int_min, int_max}
use Rattle.std.proofs.lemmas.Int.{ints, clamps}
use Rattle.totals.specs.Total.{lesser, greater, kept_of, least_of, greatest_of}
use Rattle.totals.proofs.Samples.{Bytes, byte-in}

-- a rule that keeps one of two numbers, the one that comes first in an order
pub record Picks (Before : ℤ → ℤ → Type 0) (rule : ℤ → ℤ → ℤ) : Type 0 where
  pub one : (a b : ℤ) → (rule a b ≡ a) ⊎ (rule a b ≡ b)
  pub left : (a b : ℤ) → Before (rule a b) a
  pub right : (a b : ℤ) → Before (rule a b) b
  pub same : (a : ℤ) → Before a a
  pub trans : {a b c : ℤ} → Before a b → Before b c → Before a c

module _ {Before : ℤ → ℤ → Type 0} {rule : ℤ → ℤ → ℤ} (p : Picks Before rule) where
  fold-in : (x : ℤ) (l : List ℤ) → Memᴰ (foldl rule x l) (x ∷ l)
  fold-in x [] = Memᴰ.head refl
  fold-in x (y ∷ l) =
      ⊎_elim
      (λ e. ⊎_elim (λ a. Memᴰ.head (e ∙ a)) (λ b. Memᴰ.tail (Memᴰ.head (e ∙ b))) (p.one x y))
      (λ m. Memᴰ.tail (Memᴰ.tail m))
      (Memᴰ.cases_cons (fold-in (rule x y) l))

  fold-first : (x : ℤ) (l : List ℤ) (z : ℤ) → Memᴰ z (x ∷ l) → Before (foldl rule x l) z
  fold-first x [] z m = ⊎_elim (λ e. rw e (p.same x)) (λ k. absurd (Memᴰ.not-nil k)) (Memᴰ.cases_cons m)
  fold-first x (y ∷ l) z m =
      let top : Before (foldl rule (rule x y) l) (rule x y) = fold-first (rule x y) l (rule x y) (Memᴰ.head refl) in
      ⊎_elim
      (λ e. rw e (p.trans top (p.left x y)))
      (λ k. ⊎_elim (λ e. rw e (p.trans top (p.right x y))) (λ j. fold-first (rule x y) l z (Memᴰ.tail j))
      (Memᴰ.cases_cons k))
      (Memᴰ.cases_cons m)

  -- what is kept of all samples is one of them, comes before each, and is a signed byte where they are
  pub kept_in : (l : List ℤ) → 0 < length l → Memᴰ (kept_of rule l) l
  unfolding kept_of
  kept_in [] h = absurd (lt_irrefl 0 h)
  kept_in (x ∷ l) h = fold-in x l

  pub kept-first : (l : List ℤ) (x : ℤ) → Memᴰ x l → Before (kept_of rule l) x
  unfolding kept_of
  kept-first [] x m = absurd (Memᴰ.not-nil m)
  kept-first (y ∷ l) x m = fold-first y l x m

  pub kept_byte : (l : List ℤ) → Bytes l → SFits w8 (kept_of rule l)
  unfolding kept_of
  kept_byte [] h = sfits_lit tt
  kept_byte (x ∷ l) h = byte-in (x ∷ l) _ h (fold-in x l)

-- of two numbers by a test, whichever it is
by-test : (P : ℤ → Type 0) (t : Bool) {a b : ℤ} → (T t → P a) → (T (not t) → P b) → P (cond t a b)
by-test P true f g = f tt
by-test P false f g = g tt

lt-le : (a b : ℤ) → T (lt_z a b) → a ≤ℤ b
lt-le (pos a) (pos b) t = record { le = le→leb a b (omega (arith, ltb→lt a b t)) }
lt-le (pos a) (negsuc b) t = absurd t
lt-le (negsuc a) (pos b) t = record { le = tt }
lt-le (negsuc a) (negsuc b) t = record { le = le→leb b a (omega (arith, ltb→lt b a t)) }

trans-test : (a b c : ℤ) → T (le_z a b) → T (le_z b c) → T (le_z a c)
trans-test (pos a) (pos b) (pos c) h k = le→leb a c (le_trans (leb→le a b h) (leb→le b c k))
trans-test (pos a) (pos b) (negsuc c) h k = k
trans-test (pos a) (negsuc b) c h k = absurd h
trans-test (negsuc a) b (pos c) h k = tt
trans-test (negsuc a) (pos b) (negsuc c) h k = absurd k
trans-test (negsuc a) (negsuc b) (negsuc c) h k = le→leb c a (le_trans (leb→le c b k) (leb→le b a h))

≤ℤ-trans : {a b c : ℤ} → a ≤ℤ b → b ≤ℤ c → a ≤ℤ c
≤ℤ-trans {a} {b} {c} h k = record { le = trans-test a b c h.le k.le }

pub lesser-picks : Picks ◌≤ℤ◌ lesser
unfolding lesser
lesser-picks =
    record {
      one = λ a b. by-test (λ (z : ℤ). (z ≡ a) ⊎ (z ≡ b)) (lt_z a b) (λ t. inl refl) (λ t. inr refl);
      left = λ a b. by-test (λ (z : ℤ). z ≤ℤ a) (lt_z a b) (λ t. ≤ℤ_refl a) lt_z_no;
      right = λ a b. by-test (λ (z : ℤ). z ≤ℤ b) (lt_z a b) (lt-le a b) (λ t. ≤ℤ_refl b);
      same = ≤ℤ_refl;
      trans = ≤ℤ-trans;
    }

pub greater-picks : Picks (λ (a b : ℤ). b ≤ℤ a) greater
unfolding greater
greater-picks =
    record {
      one = λ a b. by-test (λ (z : ℤ). (z ≡ a) ⊎ (z ≡ b)) (lt_z b a) (λ t. inl refl) (λ t. inr refl);
      left = λ a b. by-test (λ (z : ℤ). a ≤ℤ z) (lt_z b a) (λ t. ≤ℤ_refl a) lt_z_no;
      right = λ a b. by-test (λ (z : ℤ). b ≤ℤ z) (lt_z b a) (lt-le b a) (λ t. ≤ℤ_refl b);
      same = ≤ℤ_refl;
      trans = λ h k. ≤ℤ-trans k h;
    }

-- as the library picks
pub lesser-min : (a b : ℤ) → int_min a b ≡ lesser a b
unfolding lesser
lesser-min a b = grind (arith, ints, clamps)

pub greater-max : (a b : ℤ) → int_max a b ≡ greater a b
unfolding greater
greater-max a b = grind (arith, ints, clamps)

-- the least is one of the samples, at most each, and a signed byte; the greatest is one of them, at least each, and a signed byte
pub least-in : (l : List ℤ) → 0 < length l → Memᴰ (least_of l) l
least-in = kept_in lesser-picks

pub least-le : (l : List ℤ) (x : ℤ) → Memᴰ x l → least_of l ≤ℤ x
least-le = kept-first lesser-picks

pub least-byte : (l : List ℤ) → Bytes l → SFits w8 (least_of l)
least-byte = kept_byte lesser-picks

pub greatest-in : (l : List ℤ) → 0 < length l → Memᴰ (greatest_of l) l
greatest-in = kept_in greater-picks

pub le-greatest : (l : List ℤ) (x : ℤ) → Memᴰ x l → x ≤ℤ greatest_of l
le-greatest = kept-first greater-picks

pub greatest-byte : (l : List ℤ) → Bytes l → SFits w8 (greatest_of l)
greatest-byte = kept_byte greater-picks

-- 127 is no less than any signed byte, and -128 no greater
pub lesser-start : (x : ℤ) → SFits w8 x → lesser (pos 127) x ≡ x
unfolding lesser
lesser-start (pos n) h = rw (le-ltb 127 n (omega arith))
lesser-start (negsuc n) h = refl

pub greater-start : (x : ℤ) → SFits w8 x → greater (negsuc 127) x ≡ x
unfolding greater
greater-start (pos n) h = refl
greater-start (negsuc n) h = rw (le-ltb 127 n (omega arith))
