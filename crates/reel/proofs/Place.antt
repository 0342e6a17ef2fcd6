-- What each answer at a place of a reel of the edition n tells. Assumes nothing.
use Prim.Native.Nat.{ℕ, ◌+◌, ◌*◌, ◌-◌, ◌≤◌, ◌<◌}
use mathlib.Core.Path.{◌≡◌, refl, ap, sym, subst, ◌∙◌}
use mathlib.Core.Bool.{Bool, true, false, true≢false, cond}
use mathlib.Core.List.{List, [], ◌++◌}
use mathlib.Core.Logic.{◌⊎◌, inl, inr}
use native.Mathlib.Omega.{arith}
use lib.Dec.{eqb, leb}
use lib.ListN.{length, take, drop, take-append-drop, length-drop, length-append}
use lib.Seq.{drop-drop}
use borrow.Author.Tests.{le-leb, lt-leb, leb-true, leb-false, eqb-true, eqb-false}
use Rattle.header.specs.Edition.{is_unknown, header_bytes}
use Rattle.record.specs.Record.{record_refusal}
use Rattle.record.proofs.Accepted.{record-facts}
use Rattle.answers.proofs.Refusals.{cond-none, cond-some}
use Rattle.reel.specs.Reel.{Found, accepted, finished, refused, words_in, rest_refusal, found_in, step_at, bytes_found}
use Rattle.reel.specs.Reel.{place_after, record_at, next_place}
use Rattle.reel.specs.Walk.{is_record}
use Rattle.reel.proofs.Rest.{header-size, whole, rest-number, accepted-size, front-size, front-accepted}

-- ## the step by cases

-- in no edition
pub step-unknown : (n : ℕ) (reel : List ℕ) (place : ℕ) → is_unknown n ≡ true → step_at n reel place ≡ refused 25
unfolding step_at
step-unknown n reel place e =
    (λ i. cond (e i) (refused 25) (cond (leb (length reel) place) finished (found_in n place (drop place reel))))

module _ (n : ℕ) (reel : List ℕ) (place : ℕ) (known : is_unknown n ≡ false) where
  pub step-finished : length reel ≤ place → step_at n reel place ≡ finished
  unfolding step_at
  step-finished h =
      (λ i. cond (known i) (refused 25)
      (cond (le-leb (length reel) place h i) finished (found_in n place (drop place reel))))

  pub step-found : place < length reel → step_at n reel place ≡ found_in n place (drop place reel)
  unfolding step_at
  step-found h =
      (λ i. cond (known i) (refused 25)
      (cond (lt-leb (length reel) place h i) finished (found_in n place (drop place reel))))

module _ (n place : ℕ) (rest : List ℕ) where
  pub found-accepted : rest_refusal n rest ≡ 0 → found_in n place rest ≡ accepted place (place + 2 * words_in rest)
  found-accepted e =
      cond-none (rest_refusal n rest) (refused (rest_refusal n rest)) (accepted place (place + 2 * words_in rest)) e

  pub found-refused : (rest_refusal n rest ≡ 0 → ⊥) → found_in n place rest ≡ refused (rest_refusal n rest)
  found-refused e =
      cond-some (rest_refusal n rest) (refused (rest_refusal n rest)) (accepted place (place + 2 * words_in rest)) e

-- an accepted record at the front of what is left is found
pub step-record : (n : ℕ) (reel : List ℕ) (place : ℕ) (b rest : List ℕ) → drop place reel ≡ b ++ rest → record_refusal n b ≡ 0
    → step_at n reel place ≡ accepted place (place + length b)
step-record n reel place b rest e good =
    let h = (accepted-size n b good).0 in
    let l : length reel - place ≡ length b + length rest = sym (length-drop place reel) ∙ ap length e ∙ length-append b rest in
    step-found n reel place (record-facts n b good).known (omega (arith, (header-size n).0))
    ∙ ap (found_in n place) e
    ∙ found-accepted n place (b ++ rest) (front-accepted n b rest good)
    ∙ ap (λ (k : ℕ). accepted place (place + k)) (front-size n b rest good)

-- ## what each answer tells

-- a record that stands at a place: it starts there, ends at least a header on, within the reel, and is accepted
pub record Stands (n : ℕ) (reel : List ℕ) (place start end : ℕ) : Type 0 where
  pub here : start ≡ place
  pub header : start + header_bytes n ≤ end
  pub inside : end ≤ length reel
  pub good : record_refusal n (take (end - start) (drop start reel)) ≡ 0

-- 25 only where the edition is unknown, and there at every place; else what each answer says of the place
abbrev pub Told : ℕ → List ℕ → ℕ → Found → Type 0
Told n reel place (accepted start end) = Stands n reel place start end
Told n reel place finished = length reel ≤ place
Told n reel place (refused k) = ((is_unknown n ≡ true) × (k ≡ 25)) ⊎ ((place < length reel) × (1 ≤ k) × (k ≤ 11))

by_cond : {A : Type 0} (P : A → Type 0) (b : Bool) {x y : A} → (b ≡ true → P x) → (b ≡ false → P y) → P (cond b x y)
by_cond P true f g = f refl
by_cond P false f g = g refl

module _ (n : ℕ) (reel : List ℕ) (place : ℕ) where
  stands : place < length reel → rest_refusal n (drop place reel) ≡ 0
      → Stands n reel place place (place + 2 * words_in (drop place reel))
  stands h e =
      let rest = drop place reel in
      let w = whole n rest e in
      let size : place + 2 * words_in rest - place ≡ 2 * words_in rest = omega arith in
      record {
        here = refl;
        header = omega (arith, w.words, (header-size n).1);
        inside = omega (arith, w.inside, length-drop place reel);
        good = ap (λ (k : ℕ). record_refusal n (take k rest)) size ∙ w.good;
      }

  pub told : Told n reel place (step_at n reel place)
  unfolding step_at
  told =
      by_cond (Told n reel place) (is_unknown n) (λ u. inl (u, refl)) (λ known.
      by_cond (Told n reel place) (leb (length reel) place) (leb-true (length reel) place) (λ p.
      let h = leb-false (length reel) place p in
      by_cond (Told n reel place) (eqb (rest_refusal n (drop place reel)) 0) (λ q. stands h (eqb-true _ 0 q)) (λ q.
      let some : rest_refusal n (drop place reel) ≡ 0 → ⊥ = eqb-false _ 0 q in
      inr (h, positive _ some, rest-number n (drop place reel) known))))
    where
      positive : (k : ℕ) → (k ≡ 0 → ⊥) → 1 ≤ k
      positive k f = omega arith

  -- of a record that was found
  pub stands_at : (start end : ℕ) → step_at n reel place ≡ accepted start end → Stands n reel place start end
  stands_at start end e = subst (Told n reel place) e told

  -- it lies within its reel
  pub within : (start end : ℕ) → accepted start end ≡ step_at n reel place → (start ≤ end) × (end ≤ length reel)
  within start end e =
      let t = stands_at start end (sym e) in
      (omega (arith, t.header), t.inside)

-- by what stands there
module _ (n : ℕ) (reel : List ℕ) (place : ℕ) where
  found-split : (f : Found) → Told n reel place f → bytes_found f reel ++ drop (place_after f place) reel ≡ drop place reel
  found-split (accepted start end) t =
      let k = end - start in
      let e : start + k ≡ end = omega (arith, t.header) in
      ap (λ (m : ℕ). take k (drop start reel) ++ drop m reel) (sym e)
      ∙ ap (λ (l : List ℕ). take k (drop start reel) ++ l) (sym (drop-drop k start reel))
      ∙ take-append-drop k (drop start reel)
      ∙ ap (λ (m : ℕ). drop m reel) t.here
  found-split finished t = refl
  found-split (refused k) t = refl

  -- the record and what follows it are what is left
  pub split : record_at n reel place ++ drop (next_place n reel place) reel ≡ drop place reel
  split = found-split (step_at n reel place) (told n reel place)

  -- a record found is accepted, and moves the place on by its length, within the reel
  pub record Moved (bytes : List ℕ) (next : ℕ) : Type 0 where
    pub good : record_refusal n bytes ≡ 0
    pub header : place + header_bytes n ≤ next
    pub inside : next ≤ length reel

  found-moved : (f : Found) → is_record f ≡ true → Told n reel place f → Moved (bytes_found f reel) (place_after f place)
  found-moved (accepted start end) e t = record { good = t.good; header = omega (arith, t.here, t.header); inside = t.inside }
  found-moved finished e t = absurd (true≢false (sym e))
  found-moved (refused k) e t = absurd (true≢false (sym e))

  pub moved : is_record (step_at n reel place) ≡ true → Moved (record_at n reel place) (next_place n reel place)
  moved e = found-moved (step_at n reel place) e (told n reel place)

  -- no record found: the place stays, and there are no bytes
  found_none : (f : Found) → is_record f ≡ false → (place_after f place ≡ place) × (bytes_found f reel ≡ [])
  found_none (accepted start end) e = absurd (true≢false e)
  found_none finished e = (refl, refl)
  found_none (refused k) e = (refl, refl)

  pub stays : is_record (step_at n reel place) ≡ false → next_place n reel place ≡ place
  stays e = (found_none (step_at n reel place) e).0

  pub empty : is_record (step_at n reel place) ≡ false → record_at n reel place ≡ []
  empty e = (found_none (step_at n reel place) e).1
