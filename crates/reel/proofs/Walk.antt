-- The claims of a walk along any reel of the edition n from place 0. FORMAT, "The reel": where it finishes, the records handed
-- out, joined, are the reel. `walk` is in specs/Walk, the reader's walk in specs/Reader, what stands at a place in specs/Reel.
-- Assumes nothing.
use Prim.Native.Nat.{ℕ, ◌+◌, ◌/◌, ◌≤◌}
use mathlib.Core.Path.{◌≡◌, refl}
use mathlib.Core.Bool.{true, false}
use mathlib.Core.List.{List, [], flatten}
use native.Mathlib.Nat.{le-div_iff_mul-le}
use native.Mathlib.Omega.{arith}
use lib.ListN.{length}
use denote.Ref.{Bor}
use Rattle.header.specs.Edition.{is_unknown, header_bytes}
use Rattle.record.specs.Record.{record_refusal}
use Rattle.reel.specs.Reel.{finished, refused, step_at, record_at, next_place}
use Rattle.reel.specs.Walk.{is_record, walk, AllAccepted}
use Rattle.reel.specs.Reader.{at_start, reader_walk}
use Rattle.reel.proofs.Rest.{header-size}
use Rattle.reel.proofs.Place.{step-unknown, moved, stays, empty}
use Rattle.reel.proofs.Onward.{along, enough}
use Rattle.reel.proofs.Records.{hands, joined-size}
use Rattle.reel.proofs.Reading.{reader-walks}

module _ (n : ℕ) (reel : List ℕ) where
  -- THE REEL REJOINED: where the walk finishes, the records handed out, joined, are the reel
  pub rejoined : (walk n reel).last ≡ finished → flatten (walk n reel).records ≡ reel
  unfolding walk
  rejoined e = (along n reel (length reel) 0).joined e

  -- every record handed out is accepted: none of 25 and 1 to 11 applies to it
  pub all-accepted : AllAccepted n (walk n reel).records
  unfolding walk
  all-accepted = (along n reel (length reel) 0).good

  -- the walk ends on every reel: no record stands where it ends, but the end or a refusal
  pub ends : is_record (walk n reel).last ≡ false
  unfolding walk
  ends = enough n reel (length reel) 0 (omega arith)

  pub ends_there : (walk n reel).last ≡ step_at n reel (walk n reel).place
  unfolding walk
  ends_there = (along n reel (length reel) 0).there

  -- after at most one record for each header's length of bytes
  pub at_most : length (walk n reel).records ≤ length reel / header_bytes n
  unfolding walk
  at_most =
      let a = along n reel (length reel) 0 in
      (le-div_iff_mul-le {k = header_bytes n} (omega (arith, (header-size n).0))).1 (omega (arith, a.on, a.inside (omega arith)))

  -- in no edition there is 25 at every place, the end and all past it too, and no record is handed out
  pub unknown : (place : ℕ) → is_unknown n ≡ true → step_at n reel place ≡ refused 25
  unknown place e = step-unknown n reel place e

  -- `record_at`, `next_place`, and the reader's `record` and `next`, bear no number: `step_at` and `peek` at the same place do.
  -- Where those give a record, its bytes are accepted, so there are some; at the end and beside a refusal there are none
  pub record-stands : (place : ℕ) → is_record (step_at n reel place) ≡ true → record_refusal n (record_at n reel place) ≡ 0
  record-stands place e = (moved n reel place e).good

  pub no_record : (place : ℕ) → is_record (step_at n reel place) ≡ false → record_at n reel place ≡ []
  no_record place e = empty n reel place e

  -- a record moves the place on by at least a header; a refusal, and the end, do not move it
  pub moves-on : (place : ℕ) → is_record (step_at n reel place) ≡ true → place + header_bytes n ≤ next_place n reel place
  moves-on place e = (moved n reel place e).header

  pub does-not-move : (place : ℕ) → is_record (step_at n reel place) ≡ false → next_place n reel place ≡ place
  does-not-move place e = stays n reel place e

-- accepted records of an edition, joined, are a reel whose walk hands out those records and finishes
pub records-handed : (n : ℕ) → is_unknown n ≡ false → (bs : List (List ℕ)) → AllAccepted n bs
    → ((walk n (flatten bs)).records ≡ bs) × ((walk n (flatten bs)).last ≡ finished)
unfolding walk
records-handed n known bs t =
    let h = hands n (flatten bs) known bs (length (flatten bs)) 0 refl t (joined-size n bs t) in
    (h.records, h.last)

-- the walk by a reader from the start of its reel is that walk
pub by-reader : (n : ℕ) (reel : Bor (List ℕ)) → reader_walk (length reel.now) (at_start n reel) ≡ walk n reel.now
unfolding walk
by-reader n reel = reader-walks (length reel.now) (at_start n reel)
