-- Samples are signed bytes, and one sample more is one at the end of the list. Assumes nothing.
use Prim.Native.Nat.{ℕ, zero, suc, ◌-◌}
use mathlib.Core.Path.{◌≡◌, refl, ap, ◌∙◌}
use mathlib.Core.Bool.{Bool, true, false, cond}
use mathlib.Core.List.Memᴰ
use mathlib.Core.List.{List, [], ◌∷◌, ◌++◌, Memᴰ}
use mathlib.Core.Logic.{⊎_elim}
use native.Mathlib.Nat.{zero-add}
use native.Mathlib.Omega.{arith}
use lib.Dec.{ltb}
use lib.IntN.{ℤ, pos, negsuc}
use borrow.Author.Tests.{ltb-true, ltb-false}
use mir.Syntax.{w8}
use mir.Val.{SFits}
use Rattle.lists.specs.Fill.{tab}
use Rattle.lists.proofs.Fill.{tab-more}
use Rattle.channels.specs.Sample.{signed_of, sample_of, samples_of}

pub signed-fits : (b : ℕ) → SFits w8 (signed_of b)
unfolding signed_of
signed-fits b = by (ltb b 128) refl
  where
    by : (t : Bool) → ltb b 128 ≡ t → SFits w8 (cond t (pos b) (negsuc (255 - b)))
    by true e = record { sfits = ltb-true b 128 e }
    by false e = record { sfits = omega (arith, ltb-false b 128 e) }

-- every sample is a signed byte, -128 to 127
abbrev pub Bytes : List ℤ → Type 0
Bytes [] = Unit
Bytes (x ∷ l) = SFits w8 x × Bytes l

pub byte-in : (l : List ℤ) (x : ℤ) → Bytes l → Memᴰ x l → SFits w8 x
byte-in [] x h m = absurd (Memᴰ.not-nil m)
byte-in (y ∷ l) x h m = ⊎_elim (λ e. rw e h.0) (λ k. byte-in l x h.1 k) (Memᴰ.cases_cons m)

pub bytes-append : (l m : List ℤ) → Bytes l → Bytes m → Bytes (l ++ m)
bytes-append [] m h k = k
bytes-append (x ∷ l) m h k = (h.0, bytes-append l m h.1 k)

tab-bytes : (rule : ℕ → ℤ) → ((k : ℕ) → SFits w8 (rule k)) → (k n : ℕ) → Bytes (tab rule k n)
tab-bytes rule h k zero = tt
tab-bytes rule h k (suc n) = (h k, tab-bytes rule h (suc k) n)

pub samples-bytes : (stretch : List ℕ) (channel n : ℕ) → Bytes (samples_of stretch channel n)
samples-bytes stretch channel n = tab-bytes (sample_of stretch channel) (λ k. signed-fits _) 0 n

pub samples-more : (stretch : List ℕ) (channel n : ℕ)
    → samples_of stretch channel (suc n) ≡ samples_of stretch channel n ++ sample_of stretch channel n ∷ []
samples-more stretch channel n = tab-more (sample_of stretch channel) 0 n
    ∙ ap (λ (j : ℕ). samples_of stretch channel n ++ sample_of stretch channel j ∷ []) (zero-add n)
