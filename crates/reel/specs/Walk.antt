-- A walk along a reel of the edition n: from a place on, record after record, until there is none. FORMAT, "The reel".
use Rattle.std.specs.Prelude.{ℕ, zero, suc, ◌≡◌, Bool, true, false, List, [], ◌∷◌, length}
use Rattle.record.specs.Record.{record_refusal}
use Rattle.reel.specs.Reel.{Found, accepted, finished, refused, step_at, record_at, next_place}

-- the records handed out, the place reached, and what stands there
pub record Walk : Type 0 where
  pub records : List (List ℕ)
  pub place : ℕ
  pub last : Found

abbrev pub is_record : Found → Bool
is_record (accepted start end) = true
is_record finished = false
is_record (refused k) = false

-- no record more
abbrev pub stopped : ℕ → List ℕ → ℕ → Walk
stopped n reel place = record { records = []; place = place; last = step_at n reel place }

-- a record, and the walk after it
abbrev pub handing : List ℕ → Walk → Walk
handing bytes after = record { records = bytes ∷ after.records; place = after.place; last = after.last }

-- where a record stands it is handed out, and the walk goes on from the next place
abbrev pub onward : ℕ → List ℕ → (ℕ → Walk) → ℕ → Bool → Walk
onward n reel rest place true = handing (record_at n reel place) (rest (next_place n reel place))
onward n reel rest place false = stopped n reel place

-- a walk of at most so many records from a place on
unfoldable pub walk_from : ℕ → List ℕ → ℕ → ℕ → Walk
walk_from n reel zero place = stopped n reel place
walk_from n reel (suc most) place = onward n reel (walk_from n reel most) place (is_record (step_at n reel place))

-- the walk from place 0: each record moves the place on, so no reel has more records than bytes
unfoldable pub walk : ℕ → List ℕ → Walk
walk n reel = walk_from n reel (length reel) 0

-- every record of a list is accepted
abbrev pub AllAccepted : ℕ → List (List ℕ) → Type 0
AllAccepted n [] = Unit
AllAccepted n (b ∷ bs) = (record_refusal n b ≡ 0) × AllAccepted n bs
