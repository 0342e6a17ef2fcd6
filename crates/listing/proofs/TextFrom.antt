-- The text of a walk from a place on, line by line: where a record stands, its line and the text from the next place on; else the
-- refusal's line, or nothing. And what each answer of a reader's `read` leaves to be written. Assumes nothing.
use Prim.Native.Nat.{ℕ, ◌-◌, ◌<◌}
use mathlib.Core.Path.{◌≡◌, refl, ap, sym, ◌∙◌}
use mathlib.Core.Bool.{Bool, true, false, cond}
use mathlib.Core.List.{List, ◌++◌, append_assoc}
use native.Mathlib.Omega.{arith}
use lib.ListN.{length}
use denote.Ref.{Bor}
use Rattle.std.specs.Prelude.{Option, Some, None}
use Rattle.answers.specs.Answer
use Rattle.reel.specs.Reel.{Found, finished, refused, bytes_found, step_at, record_at, next_place}
use Rattle.reel.specs.Walk.{is_record, onward, walk, walk_from}
use Rattle.reel.specs.Reader.{at_start, step_of, record_of, moved_on, bytes_answer}
use Rattle.reel.specs.Shown.{shown_bytes}
use Rattle.reel.specs.declared.Reader.{Reader}
use Rattle.reel.proofs.Rest.{header-size}
use Rattle.reel.proofs.Place.{moved}
use Rattle.reel.proofs.Onward.{settled}
use Rattle.reel.proofs.Walk.{does-not-move}
use Rattle.reel.proofs.Reading.{at_place, moved_by_lem, read-record, read-finished, read-refused}
use Rattle.numbers.specs.Writing.{Room, Written}
use Rattle.numbers.proofs.Writing.{room-first, room-rest, room_as, written_both, written_as, nothing}
use Rattle.text.specs.Text.{refused_line}
use Rattle.listing.specs.Listing.{record_text, record_texts, last_text, walk_text, text_from, line_at}

module _ (reel : List ℕ) where
  pub from_start : text_from reel 0 ≡ walk_text (walk 1985 reel)
  unfolding walk
  from_start = refl

  module _ (place : ℕ) where
    line-by : (b : Bool) → is_record (step_at 1985 reel place) ≡ b
        → line_at reel place ≡ cond b (record_text (record_at 1985 reel place)) (last_text (step_at 1985 reel place))
    unfolding line_at
    line-by b e = ap (λ (t : Bool). cond t (record_text (record_at 1985 reel place)) (last_text (step_at 1985 reel place))) e

    text-by : (b : Bool) → is_record (step_at 1985 reel place) ≡ b
        → text_from reel place ≡ walk_text (onward 1985 reel (walk_from 1985 reel (length reel)) place b)
    unfolding walk_from
    text-by b e =
        ap walk_text
        (sym (settled 1985 reel (length reel) place (omega arith)) ∙ ap (onward 1985 reel (walk_from 1985 reel (length reel)) place) e)

    pub line-record : is_record (step_at 1985 reel place) ≡ true → line_at reel place ≡ record_text (record_at 1985 reel place)
    line-record e = line-by true e

    pub line-none : is_record (step_at 1985 reel place) ≡ false → line_at reel place ≡ last_text (step_at 1985 reel place)
    line-none e = line-by false e

    pub text-more : is_record (step_at 1985 reel place) ≡ true
        → line_at reel place ++ text_from reel (next_place 1985 reel place) ≡ text_from reel place
    unfolding record_texts
    text-more e =
        let w = walk_from 1985 reel (length reel) (next_place 1985 reel place) in
        ap (λ (t : List ℕ). t ++ walk_text w) (line-record e)
        ∙ sym (append_assoc (record_text (record_at 1985 reel place)) (record_texts w.records) (last_text w.last))
        ∙ sym (text-by true e)

    pub text-last : is_record (step_at 1985 reel place) ≡ false → line_at reel place ≡ text_from reel place
    unfolding record_texts
    text-last e = line-none e ∙ sym (text-by false e)

-- what is left of a reader's reel
abbrev pub left : Reader → ℕ
left d = length d.reel.now - d.place

-- the text from a reader's place on
abbrev pub text : Reader → List ℕ
text d = text_from d.reel.now d.place

-- a reader d of 1985 and the reader r moved on: where it has moved, less of its reel is left
module _ (d r : Reader) (of-1985 : d.edition ≡ 1985) (is : r ≡ moved_on d) where
  on : r ≡ at_place d (next_place d.edition d.reel.now d.place)
  on = is ∙ sym (moved_by_lem d (step_of d))

  pub next-is : r.place ≡ next_place 1985 d.reel.now d.place
  next-is = ap (λ (y : Reader). y.place) on ∙ ap (λ (n : ℕ). next_place n d.reel.now d.place) of-1985

  same-reel : r.reel.now ≡ d.reel.now
  same-reel = ap (λ (y : Reader). y.reel.now) on

  pub falls : d.place < r.place → left r < left d
  falls h = by-test (is_record (step_at 1985 d.reel.now d.place)) refl
    where
      by-test : (t : Bool) → is_record (step_at 1985 d.reel.now d.place) ≡ t → left r < left d
      by-test true e = let m = moved 1985 d.reel.now d.place e in omega (arith, h, next-is, m.inside, ap length same-reel)
      by-test false e = absurd (let z : ⊥ = omega (arith, h, next-is, does-not-move 1985 d.reel.now d.place e) in z)

-- A reader d of 1985 whose text has room in a buffer from a place on; where it is written there, the text x has been written from
-- the start i of the buffer l
pub record Going (l : List ℕ) (i : ℕ) (x : List ℕ) (d : Reader) (out : List ℕ) (at : ℕ) : Type 0 where
  pub of-1985 : d.edition ≡ 1985
  pub room : Room out at (text d)
  pub rest : {next : ℕ} {after : List ℕ} → Written out at (text d) next after → Written l i x next after

pub at-start : {l x : List ℕ} {i : ℕ} (d : Reader) (reel : Bor (List ℕ)) → d ≡ at_start 1985 reel
    → walk_text (walk 1985 reel.now) ≡ x → Room l i x → Going l i x d l i
at-start d reel is e room =
    let begins = (λ i. text_from (is i).reel.now (is i).place) ∙ from_start reel.now ∙ e in
    record {
      of-1985 = ap (λ (y : Reader). y.edition) is;
      room = room_as begins room;
      rest = written_as begins;
    }

module _ {l x out : List ℕ} {i at : ℕ} {d : Reader} (g : Going l i x d out at) where
  found : step_of d ≡ step_at 1985 d.reel.now d.place
  found = ap (λ (n : ℕ). step_at n d.reel.now d.place) g.of-1985

  -- where no record stands, the text is the last line
  last-line : (f : Found) → step_of d ≡ f → is_record f ≡ false → last_text f ≡ text d
  last-line f e none =
      let s = sym found ∙ e in
      sym (ap last_text s) ∙ sym (line-none d.reel.now d.place (ap is_record s ∙ none))
      ∙ text-last d.reel.now d.place (ap is_record s ∙ none)

  -- what `read` gave of the record, or of nothing more
  module _ {given o : Option (Bor (List ℕ))} (e : Answer.accepted (shown_bytes given) ≡ bytes_answer d) (is : given ≡ o) where
    answered : Answer.accepted (shown_bytes o) ≡ bytes_answer d
    answered = sym (ap (λ (y : Option (Bor (List ℕ))). Answer.accepted (shown_bytes y)) is) ∙ e

  pub at-end : {given : Option (Bor (List ℕ))} → Answer.accepted (shown_bytes given) ≡ bytes_answer d → given ≡ None → Written l i x at out
  at-end e is = g.rest (written_as (last-line finished (read-finished (step_of d) d.reel.now (answered e is)) refl) (nothing out at))

  module _ (k : ℕ) (e : Answer.refused None k ≡ bytes_answer d) where
    refusal-line : refused_line k ≡ text d
    refusal-line = last-line (refused k) (read-refused (step_of d) d.reel.now k e) refl

    pub refusal-room : Room out at (refused_line k)
    refusal-room = room_as refusal-line g.room

    pub refusal-written : {next : ℕ} {after : List ℕ} → Written out at (refused_line k) next after → Written l i x next after
    refusal-written w = g.rest (written_as refusal-line w)

  -- where a record was read, and r is the reader behind it: the text is its line and that of r, of whose reel less is left
  module _ {given : Option (Bor (List ℕ))} {b : Bor (List ℕ)} {r : Reader}
      (e : Answer.accepted (shown_bytes given) ≡ bytes_answer d) (moves : r ≡ moved_on d) (is : given ≡ Some b) where
    told : (is_record (step_of d) ≡ true) × (b.now ≡ record_of d)
    told = read-record (step_of d) d.reel.now b.now (answered e is)

    stands : is_record (step_at 1985 d.reel.now d.place) ≡ true
    stands = sym (ap is_record found) ∙ told.0

    reel-is : r.reel.now ≡ d.reel.now
    reel-is = same-reel d r g.of-1985 moves

    place-is : r.place ≡ next_place 1985 d.reel.now d.place
    place-is = next-is d r g.of-1985 moves

    first-line : record_text b.now ++ text r ≡ text d
    first-line =
        let reel = d.reel.now in
        let bytes-are : b.now ≡ record_at 1985 reel d.place = told.1 ∙ ap (λ (f : Found). bytes_found f reel) found in
        (λ j. record_text (bytes-are j) ++ text_from (reel-is j) (place-is j))
        ∙ ap (λ (t : List ℕ). t ++ text_from reel (next_place 1985 reel d.place)) (sym (line-record reel d.place stands))
        ∙ text-more reel d.place stands

    pub less-left : left r < left d
    less-left =
        let m = moved 1985 d.reel.now d.place stands in
        falls d r g.of-1985 moves (omega (arith, place-is, m.header, (header-size 1985).0))

    pub record-room : Room out at (record_text b.now)
    record-room = room-first (text r) first-line g.room

    pub goes-on : {next : ℕ} {after : List ℕ} → Written out at (record_text b.now) next after → Going l i x r after next
    goes-on w =
        record {
          of-1985 = ap (λ (y : Reader). y.edition) (on d r g.of-1985 moves) ∙ g.of-1985;
          room = room-rest first-line g.room w;
          rest = λ v. g.rest (written_both first-line w v);
        }
