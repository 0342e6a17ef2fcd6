-- A text is judged by its length before it is put into a buffer: what the judgement says of the room, of the answer and of the
-- buffer. Assumes nothing.
use mathlib.Core.Path.{◌≡◌, refl, sym, ap, ◌∙◌}
use mathlib.Core.Bool.{Bool, true, false, true≢false}
use mathlib.Core.List.{List, [], ◌∷◌, ◌++◌}
use Prim.Native.Nat.{ℕ, ◌+◌, ◌≤◌, ◌<◌}
use native.Mathlib.Nat.{zero-add}
use native.Mathlib.Omega.{arith}
use lib.Dec.{leb, ltb}
use lib.ListN.{length, take, drop}
use lib.Seq.{sets-eq, length-sets, take-append_seam}
use borrow.Author.Tests.{leb-true, leb-false, lt-ltb, le-ltb}
use Rattle.std.specs.Prelude.{Result, Ok, Err, IsOk}
use Rattle.answers.specs.Answer.{Answer, accepted, refused}
use Rattle.answers.specs.Refusal.{◌when◌, first}
use Rattle.answers.specs.Refused.{answer_in}
use Rattle.answers.specs.declared.Refusal.{Refusal}
use Rattle.answers.proofs.Refusals.{unless-none, unless-some, cond-none, cond-some}
use Rattle.numbers.specs.Writing.{Room, Written}
use Rattle.numbers.proofs.Writing.{next_place_lem}
use Rattle.text.specs.Placed.{refusal_at, answer_at, buffer_at}

module _ (out : List ℕ) (at : ℕ) (text : List ℕ) where
  -- the buffer with the text from the place on
  abbrev put : List ℕ
  put = take at out ++ text ++ drop (at + length text) out

  refusal-by : (t : Bool) → ltb (length out) (at + length text) ≡ t → refusal_at out at text ≡ first (21 when t ∷ [])
  unfolding refusal_at
  refusal-by t e = ap (λ (b : Bool). first (21 when b ∷ [])) e

  pub not-refused : at + length text ≤ length out → refusal_at out at text ≡ 0
  not-refused h = refusal-by _ (le-ltb (length out) (at + length text) h)

  -- where there is room, what is written is what is put, and the other way round
  pub placed : {next : ℕ} {after : List ℕ} → at + length text ≤ length out → Written out at text next after
      → (accepted next ≡ answer_at out at text) × (after ≡ buffer_at out at text)
  placed h w =
      let none = not-refused h in (
        ap accepted (next_place_lem (record { enough = h }) w) ∙ unless-none (refusal_at out at text) 0 (at + length text) none,
        w.buffer ∙ sets-eq text out at h ∙ sym (cond-none (refusal_at out at text) out put none),
      )

  -- so where there is room nothing is refused, and what is put is written
  pub put-ok : (r : Result ℕ Refusal) → Room out at text → answer_in 0 r ≡ answer_at out at text → IsOk r
  put-ok (Ok next) room e = refl
  put-ok (Err r) room e =
      let none = unless-none (refusal_at out at text) 0 (at + length text) (not-refused room.enough) in
      absurd (true≢false (ap (λ (x : Answer ℕ). x.given) (none ∙ sym e)))

  pub put_written : {r : Result ℕ Refusal} {next : ℕ} {after : List ℕ} → Room out at text
      → r ≡ Ok next → answer_in 0 r ≡ answer_at out at text → after ≡ buffer_at out at text → Written out at text next after
  put_written {r} {next} room e a b =
      let none = not-refused room.enough in
      let given : accepted next ≡ accepted (at + length text) =
      ap (answer_in 0) (sym e) ∙ a ∙ sym (unless-none (refusal_at out at text) 0 (at + length text) none) in
      record {
        place = ap (λ (x : Answer ℕ). x.value) given ∙ omega (arith, room.enough);
        buffer = b ∙ cond-none (refusal_at out at text) out put none ∙ sym (sets-eq text out at room.enough);
      }

  pub too_long : length out < at + length text → (refused 0 21 ≡ answer_at out at text) × (out ≡ buffer_at out at text)
  too_long h =
      let e : refusal_at out at text ≡ 21 = refusal-by true (lt-ltb (length out) (at + length text) h) in
      let some : refusal_at out at text ≡ 0 → ⊥ = λ z. omega (arith, e, z) in (
        ap (refused 0) (sym e) ∙ unless-some (refusal_at out at text) 0 (at + length text) some,
        sym (cond-some (refusal_at out at text) out put some),
      )

  -- by what `room` said
  pub judged-room : {said : Bool} → said ≡ leb (at + length text) (length out) → said ≡ true → at + length text ≤ length out
  judged-room e t = leb-true (at + length text) (length out) (sym e ∙ t)

  pub judged-full : {said : Bool} → said ≡ leb (at + length text) (length out) → said ≡ false → length out < at + length text
  judged-full e t = leb-false (at + length text) (length out) (sym e ∙ t)

-- a text written from the start of a buffer that has room for it is the buffer's front
pub front : {line text after : List ℕ} {n : ℕ} → length text ≤ length line → Written line 0 text n after
    → (n ≤ length after) × (take n after ≡ text)
front {line} {text} h w =
    let next = next_place_lem (record { enough = omega arith }) w in (
      omega (arith, next, ap length w.buffer, length-sets line 0 text),
      (λ i. take ((next ∙ zero-add (length text)) i) ((w.buffer ∙ sets-eq text line 0 (omega arith)) i))
          ∙ take-append_seam text (drop (0 + length text) line),
    )
