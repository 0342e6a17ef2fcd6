-- How long the parts of a listing can be: a record takes 780 bytes of the input and gives at most 51 of text, and the line of a
-- refusal has at most 11, or 10 where too few bytes for a header are left. Assumes nothing.
use Prim.Native.Nat.{ℕ, zero, suc, ◌+◌, ◌*◌, ◌≤◌, ◌<◌}
use mathlib.Core.Path.{◌≡◌, refl, ap, ◌∙◌}
use mathlib.Core.Bool.{Bool, true, false, ◌||◌}
use mathlib.Core.List.{List, [], ◌∷◌}
use mathlib.Core.Logic.{⊎_elim}
use native.Mathlib.Omega.{arith}
use lib.Dec.{leb, ltb, lit<}
use lib.ListN.{length, drop, take, length-append, length-drop}
use borrow.Author.Tests.{lt-ltb, leb-true, leb-false}
use Rattle.answers.specs.Refusal.{◌when◌, first, ◌then◌}
use Rattle.header.specs.Edition.{edition_of}
use Rattle.record.specs.Record.{record_refusal}
use Rattle.reel.specs.Reel.{Found, accepted, finished, refused, words_in, rest_refusal, step_at, record_at, next_place}
use Rattle.reel.specs.Walk.{Walk, is_record, onward, walk_from, AllAccepted}
use Rattle.reel.proofs.Place.{Told, told, moved, split, step-finished, step-found, found-refused}
use Rattle.text.specs.Text.{refused_line}
use Rattle.text.proofs.Line.{refused_line-length}
use Rattle.listing.specs.Listing.{record_text, record_texts, last_text, shortest_record, longest_line}
use Rattle.listing.proofs.Line.{line_small}
use Rattle.listing.proofs.Shortest.{record-long}

-- ## the records

module _ (reel : List ℕ) where
  -- a record moves the place on by its length
  moves-far : (place : ℕ) → is_record (step_at 1985 reel place) ≡ true → place + shortest_record ≤ next_place 1985 reel place
  moves-far place e =
      let bytes = record_at 1985 reel place in
      let next = next_place 1985 reel place in
      let m = moved 1985 reel place e in
      omega (
        arith,
        m.header,
        m.inside,
        record-long bytes m.good,
        ap length (split 1985 reel place),
        length-append bytes (drop next reel),
        length-drop next reel,
        length-drop place reel,
      )

  far-onward : (go : ℕ → Walk) (place : ℕ) (t : Bool) → is_record (step_at 1985 reel place) ≡ t
      → next_place 1985 reel place + shortest_record * length (go (next_place 1985 reel place)).records
      ≤ (go (next_place 1985 reel place)).place
      → place + shortest_record * length (onward 1985 reel go place t).records ≤ (onward 1985 reel go place t).place
  far-onward go place true e h = omega (arith, h, moves-far place e)
  far-onward go place false e h = omega arith

  -- a walk of at most n records comes as far as the records that it hands out
  pub far : (n place : ℕ)
      → place + shortest_record * length (walk_from 1985 reel n place).records ≤ (walk_from 1985 reel n place).place
  unfolding walk_from
  far zero place = omega arith
  far (suc n) place =
      far-onward (walk_from 1985 reel n) place (is_record (step_at 1985 reel place)) refl (far n (next_place 1985 reel place))

pub texts-small : (bs : List (List ℕ)) → AllAccepted 1985 bs → length (record_texts bs) ≤ longest_line * length bs
unfolding record_texts
texts-small [] t = omega arith
texts-small (b ∷ bs) t =
    omega (arith, line_small b t.0, texts-small bs t.1, length-append (record_text b) (record_texts bs))

-- ## the last line

-- fewer bytes than a header are refused by 1
rest-one : (rest : List ℕ) → length rest < 80 → rest_refusal 1985 rest ≡ 1
unfolding rest_refusal edition_of
rest-one rest h =
    (λ i.
    first
    (1 when (lt-ltb (length rest) 80 h i || ltb (words_in rest) 40) ∷ 2 when ltb (length rest) (2 * words_in rest) ∷ [])
    then record_refusal 1985 (take (2 * words_in rest) rest))

module _ (reel : List ℕ) (place : ℕ) where
  pub last-small : length (last_text (step_at 1985 reel place)) ≤ 11
  last-small = by-found (step_at 1985 reel place) (told 1985 reel place)
    where
      by-found : (f : Found) → Told 1985 reel place f → length (last_text f) ≤ 11
      by-found (accepted start end) t = omega arith
      by-found finished t = omega arith
      by-found (refused k) t =
          refused_line-length 2 k (lit< tt) (⊎_elim (λ z. omega (arith, z.1)) (λ z. omega (arith, z.2)) t)

  pub last-short : length reel < place + 80 → length (last_text (step_at 1985 reel place)) ≤ length (refused_line 1)
  last-short h = by-test (leb (length reel) place) refl
    where
      by-test : (t : Bool) → leb (length reel) place ≡ t → length (last_text (step_at 1985 reel place)) ≤ length (refused_line 1)
      by-test true e = omega (
        arith,
        ap (λ (f : Found). length (last_text f))
            (step-finished 1985 reel place refl (leb-true (length reel) place e)),
      )
      by-test false e =
          let rest = drop place reel in
          let one = rest-one rest (omega (arith, length-drop place reel, leb-false (length reel) place e)) in
          let found = step-found 1985 reel place refl (leb-false (length reel) place e)
          ∙ found-refused 1985 place rest (λ z. omega (arith, one, z)) ∙ ap refused one in
          omega (arith, ap (λ (f : Found). length (last_text f)) found)
