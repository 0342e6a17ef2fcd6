-- A text written behind another is their join written at once. Assumes nothing.
use mathlib.Core.Path.{◌≡◌, refl, sym, ap, ◌∙◌}
use mathlib.Core.List.{List, [], ◌∷◌, ◌++◌}
use mathlib.Core.Logic.{⊎_elim}
use Prim.Native.Nat.{ℕ, suc, ◌+◌, ◌≤◌}
use native.Mathlib.Nat.{add-zero, add-suc, suc-add}
use native.Mathlib.Omega.{arith}
use lib.ListN.{length, set, length-append}
use lib.Seq.{sets, length-sets, set_out}
use Rattle.lists.proofs.Order.{le-or-lt}
use Rattle.numbers.specs.Writing.{Room, Written, place_behind}

sets-append : (l : List ℕ) (i : ℕ) (s t : List ℕ) → sets (sets l i s) (i + length s) t ≡ sets l i (s ++ t)
sets-append l i [] t = ap (λ (k : ℕ). sets l k t) (add-zero i)
sets-append l i (x ∷ s) t =
    ap (λ (k : ℕ). sets (sets (set l i x) (suc i) s) k t) (add-suc i (length s) ∙ sym (suc-add i (length s)))
    ∙ sets-append (set l i x) (suc i) s t

-- past the end nothing is stored
sets-out : (l : List ℕ) (i : ℕ) (t : List ℕ) → length l ≤ i → sets l i t ≡ l
sets-out l i [] h = refl
sets-out l i (x ∷ t) h =
    ap (λ (m : List ℕ). sets m (suc i) t) (set_out l i x h) ∙ sets-out l (suc i) t (omega arith)

-- a text behind what was written of another
sets_behind : (l : List ℕ) (i : ℕ) (s t : List ℕ)
    → sets (sets l i s) (place_behind (length l) i (length s)) t ≡ sets l i (s ++ t)
sets_behind l i s t =
    let size = length-sets l i s in
    let n = length s in
    ⊎_elim
    (λ h. ap (λ (k : ℕ). sets (sets l i s) k t) (omega arith) ∙ sets-append l i s t)
    (λ h. sets-out (sets l i s) (place_behind (length l) i n) t (omega (arith, size))
    ∙ sym (sets-out (sets l i s) (i + n) t (omega (arith, size))) ∙ sets-append l i s t)
    (le-or-lt (i + length s) (length l))

behind-both : (size at n m : ℕ) → place_behind size (place_behind size at n) m ≡ place_behind size at (n + m)
behind-both size at n m =
    ⊎_elim
    (λ h. ap (λ (k : ℕ). place_behind size k m) (omega arith) ∙ behind-exact h)
    (λ h. omega arith)
    (le-or-lt (at + n) size)
  where
    behind-exact : at + n ≤ size → place_behind size (at + n) m ≡ place_behind size at (n + m)
    behind-exact h = omega arith

-- a text of no byte
pub nothing : (l : List ℕ) (i : ℕ) → Written l i [] i l
nothing l i = record { place = omega arith; buffer = refl }

-- where there is room, the next place is behind the whole text
pub next_place_lem : {l m : List ℕ} {a b : ℕ} {s : List ℕ} → Room l a s → Written l a s b m → b ≡ a + length s
next_place_lem {l} {m} {a} {b} {s} r w = omega (arith, r.enough, w.place)

-- Of a text x that is s and then t: its room is room for s, and, once s is written, for t behind it; and where t is written
-- there, x is.
pub room-first : {l : List ℕ} {a : ℕ} {s x : List ℕ} (t : List ℕ) → s ++ t ≡ x → Room l a x → Room l a s
room-first {l} {a} {s} {x} t e r = record { enough = omega (arith, r.enough, ap length e, length-append s t) }

pub room-rest : {l m : List ℕ} {a b : ℕ} {s t x : List ℕ} → s ++ t ≡ x → Room l a x → Written l a s b m → Room m b t
room-rest {l} {m} {a} {b} {s} {t} {x} e r w =
    record {
      enough = omega (arith, r.enough, ap length e, length-append s t, w.place, ap length w.buffer, length-sets l a s);
    }

pub written_both : {l m o : List ℕ} {a b c : ℕ} {s t x : List ℕ} → s ++ t ≡ x → Written l a s b m → Written m b t c o
    → Written l a x c o
written_both {l} {m} {o} {a} {b} {c} {s} {t} {x} e first second =
    record {
      place =
          second.place ∙ (λ i. place_behind ((ap length first.buffer ∙ length-sets l a s) i) (first.place i) (length t))
          ∙ behind-both (length l) a (length s) (length t)
          ∙ ap (place_behind (length l) a) (sym (length-append s t) ∙ ap length e);
      buffer = second.buffer ∙ (λ i. sets (first.buffer i) (first.place i) t) ∙ sets_behind l a s t ∙ ap (sets l a) e;
    }

-- the same text under another name
pub room_as : {l : List ℕ} {a : ℕ} {s x : List ℕ} → s ≡ x → Room l a x → Room l a s
room_as {l} {a} {s} {x} e r = record { enough = omega (arith, r.enough, ap length e) }

pub written_as : {l m : List ℕ} {a b : ℕ} {s x : List ℕ} → s ≡ x → Written l a s b m → Written l a x b m
written_as {l} {m} {a} {b} {s} {x} e w =
    record { place = w.place ∙ ap (λ (y : List ℕ). place_behind (length l) a (length y)) e; buffer = w.buffer ∙ ap (sets l a) e }
