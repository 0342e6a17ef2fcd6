-- A reader's walk is the walk along its reel from its place, and what a reader reads tells what stands there. Assumes nothing.
use Prim.Native.Nat.{ℕ, zero, suc}
use mathlib.Core.Path.{◌≡◌, refl, ap, sym, ◌∙◌}
use mathlib.Core.Bool.{Bool, true, false, true≢false}
use mathlib.Core.List.{List, []}
use Rattle.std.specs.Prelude.{Option, Some, None}
use Rattle.std.specs.Option.{is_some, unwrap_or}
use Rattle.answers.specs.Answer
use Rattle.answers.specs.Answer.{Answer}
use Rattle.reel.specs.Reel.{Found, accepted, finished, refused, place_after, next_place, bytes_found}
use Rattle.reel.specs.Walk.{is_record, handing, onward, walk_from}
use Rattle.reel.specs.Reader.{moved_by, step_of, record_of, moved_on, answer_of, read_onward, reader_walk}
use Rattle.reel.specs.declared.Reader.{Reader}

-- the reader at another place of its reel
abbrev pub at_place : Reader → ℕ → Reader
at_place reader place = record { edition = reader.edition; reel = reader.reel; place = place }

-- a reader whose place does not move is as it was
pub moved_by_lem : (reader : Reader) (f : Found) → at_place reader (place_after f reader.place) ≡ moved_by f reader
moved_by_lem reader (accepted start end) = refl
moved_by_lem reader finished = refl
moved_by_lem reader (refused k) = refl

pub reader-walks : (most : ℕ) (reader : Reader)
    → reader_walk most reader ≡ walk_from reader.edition reader.reel.now most reader.place
unfolding reader_walk walk_from
reader-walks zero reader = refl
reader-walks (suc most) reader = by-test (is_record (step_of reader)) (reader-walks most (moved_on reader))
  where
    by-test : (b : Bool)
        → reader_walk most (moved_on reader)
        ≡ walk_from (moved_on reader).edition (moved_on reader).reel.now most (moved_on reader).place
        → read_onward (reader_walk most) reader b
        ≡ onward reader.edition reader.reel.now (walk_from reader.edition reader.reel.now most) reader.place b
    by-test true e =
        ap (handing (record_of reader)) (e ∙ (λ i. walk_from (back i).edition (back i).reel.now most (back i).place))
      where
        back : moved_on reader ≡ at_place reader (next_place reader.edition reader.reel.now reader.place)
        back = sym (moved_by_lem reader (step_of reader))
    by-test false e = refl

-- what was read, by what was found: a record's bytes, nothing more, or the refusal
abbrev bytes_in : Answer (Option (List ℕ)) → List ℕ
bytes_in answer = unwrap_or answer.value []

abbrev has_bytes : Answer (Option (List ℕ)) → Bool
has_bytes answer = is_some answer.value

pub read-record : (f : Found) (reel bytes : List ℕ) → Answer.accepted (Some bytes) ≡ answer_of f reel
    → (is_record f ≡ true) × (bytes ≡ bytes_found f reel)
read-record (accepted start end) reel bytes e = (refl, ap bytes_in e)
read-record finished reel bytes e = absurd (true≢false (ap has_bytes e))
read-record (refused k) reel bytes e = absurd (true≢false (ap has_bytes e))

pub read-finished : (f : Found) (reel : List ℕ) → Answer.accepted None ≡ answer_of f reel → f ≡ finished
read-finished (accepted start end) reel e = absurd (true≢false (sym (ap has_bytes e)))
read-finished finished reel e = refl
read-finished (refused k) reel e = absurd (true≢false (ap (λ (x : Answer (Option (List ℕ))). x.given) e))

pub read-refused : (f : Found) (reel : List ℕ) (k : ℕ) → Answer.refused None k ≡ answer_of f reel → f ≡ refused k
read-refused (accepted start end) reel k e = absurd (true≢false (sym (ap (λ (x : Answer (Option (List ℕ))). x.given) e)))
read-refused finished reel k e = absurd (true≢false (sym (ap (λ (x : Answer (Option (List ℕ))). x.given) e)))
read-refused (refused m) reel k e = ap refused (sym (ap (λ (x : Answer (Option (List ℕ))). x.number) e))
