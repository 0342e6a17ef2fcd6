-- A reel made of accepted records of the edition n: the walk hands out those records and finishes. Assumes nothing.
use Prim.Native.Nat.{ℕ, zero, suc, ◌+◌, ◌-◌, ◌≤◌}
use mathlib.Core.Path.{◌≡◌, refl, ap, sym, ◌∙◌}
use mathlib.Core.Bool.{false}
use mathlib.Core.List.{List, [], ◌∷◌, flatten}
use native.Mathlib.Omega.{arith}
use lib.ListN.{length, take, drop, length-drop, length-append}
use lib.Seq.{drop-drop, take-append_seam, drop-append_seam}
use Rattle.header.specs.Edition.{is_unknown}
use Rattle.reel.specs.Reel.{Found, accepted, finished, step_at, bytes_found, place_after, record_at, next_place}
use Rattle.reel.specs.Walk.{Walk, is_record, onward, walk_from, AllAccepted}
use Rattle.reel.proofs.Rest.{header-size, accepted-size}
use Rattle.reel.proofs.Place.{step-finished, step-record}

-- a walk that hands out the records bs and finishes
pub record Hands (bs : List (List ℕ)) (w : Walk) : Type 0 where
  pub records : w.records ≡ bs
  pub last : w.last ≡ finished

module _ (n : ℕ) (reel : List ℕ) where
  hands_none : (most place : ℕ) → step_at n reel place ≡ finished → Hands [] (walk_from n reel most place)
  unfolding walk_from
  hands_none zero place e = record { records = refl; last = e }
  hands_none (suc most) place e =
      let p = ap (λ (f : Found). onward n reel (walk_from n reel most) place (is_record f)) e in
      record { records = ap (λ (w : Walk). w.records) p; last = ap (λ (w : Walk). w.last) p ∙ e }

  hands_more : (most place : ℕ) (b : List ℕ) (bs : List (List ℕ)) → step_at n reel place ≡ accepted place (place + length b)
      → record_at n reel place ≡ b
      → Hands bs (walk_from n reel most (next_place n reel place)) → Hands (b ∷ bs) (walk_from n reel (suc most) place)
  unfolding walk_from
  hands_more most place b bs e r h =
      let p = ap (λ (f : Found). onward n reel (walk_from n reel most) place (is_record f)) e in
      record {
        records = ap (λ (w : Walk). w.records) p ∙ (λ i. r i ∷ h.records i);
        last = ap (λ (w : Walk). w.last) p ∙ h.last;
      }

  -- of what is left, joined from accepted records
  pub hands : is_unknown n ≡ false → (bs : List (List ℕ)) (most place : ℕ) → drop place reel ≡ flatten bs → AllAccepted n bs
      → length bs ≤ most
      → Hands bs (walk_from n reel most place)
  unfolding flatten
  hands known [] most place e t h =
      hands_none most place (step-finished n reel place known (omega (arith, length-drop place reel, ap length e)))
  hands known (b ∷ bs) zero place e t h = absurd (let z : ⊥ = omega arith in z)
  hands known (b ∷ bs) (suc most) place e t h =
      let s = step-record n reel place b (flatten bs) e t.0 in
      let size : place + length b - place ≡ length b = omega arith in
      let next : next_place n reel place ≡ place + length b = ap (λ (f : Found). place_after f place) s in
      let here : record_at n reel place ≡ b =
      ap (λ (f : Found). bytes_found f reel) s ∙ ap (λ (k : ℕ). take k (drop place reel)) size ∙ ap (take (length b)) e
      ∙ take-append_seam b (flatten bs) in
      let left : drop (next_place n reel place) reel ≡ flatten bs =
      ap (λ (k : ℕ). drop k reel) next ∙ sym (drop-drop (length b) place reel) ∙ ap (drop (length b)) e
      ∙ drop-append_seam b (flatten bs) in
      hands_more most place b bs s here (hands known bs most (next_place n reel place) left t.1 (omega arith))

-- no more records than bytes
pub joined-size : (n : ℕ) (bs : List (List ℕ)) → AllAccepted n bs → length bs ≤ length (flatten bs)
unfolding flatten
joined-size n [] t = omega arith
joined-size n (b ∷ bs) t =
    omega (arith, (header-size n).0, (accepted-size n b t.0).0, joined-size n bs t.1, length-append b (flatten bs))
