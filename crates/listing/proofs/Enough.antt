-- THE BUFFER IS ENOUGH: no input has a listing longer than `longest_listing`, so that a buffer of that size never gives 21.
-- Assumes nothing.
use Prim.Native.Nat.{ℕ, ◌+◌, ◌*◌, ◌≤◌}
use mathlib.Core.Path.{◌≡◌, refl, ap}
use mathlib.Core.Bool.{Bool, true, false, cond}
use mathlib.Core.List.{List, ◌++◌}
use native.Mathlib.Omega.{arith}
use lib.Dec.{ltb, lit<}
use lib.ListN.{length, length-append}
use borrow.Author.Tests.{ltb-true, ltb-false}
use Rattle.reel.specs.Reel.{Found, step_at}
use Rattle.reel.specs.Walk.{walk}
use Rattle.reel.proofs.Onward.{along}
use Rattle.reel.proofs.Walk.{all-accepted, ends_there}
use Rattle.numbers.specs.Number.{decimal_text, digits_in}
use Rattle.text.specs.Text.{header_line, refused_line}
use Rattle.text.proofs.Judging.{not-refused}
use Rattle.text.proofs.Line.{refused_line-length}
use Rattle.listing.specs.Listing.{longest_input, record_texts, last_text, walk_text, listing, shortest_record, most_records}
use Rattle.listing.specs.Listing.{longest_line, longest_listing, text_refusal}
use Rattle.listing.proofs.Longest.{far, texts-small, last-small, last-short}

module _ (input : List ℕ) where
  abbrev records : List (List ℕ)
  records = (walk 1985 input).records

  abbrev place : ℕ
  place = (walk 1985 input).place

  abbrev walked : List ℕ
  walked = walk_text (walk 1985 input)

  -- the records lie one behind the other in the input
  inside : (shortest_record * length records ≤ place) × (place ≤ length input)
  unfolding walk
  inside =
      (omega (arith, far input (length input) 0), (along 1985 input (length input) 0).inside (omega arith))

  -- an input that 24 does not refuse holds at most 84
  pub few-records : length input ≤ longest_input → length records ≤ most_records
  few-records h = let i = inside in omega (arith, i.0, i.1, h)

  -- what is written of them, with a last line of at most m bytes
  walked-within : (m : ℕ) → length (last_text (step_at 1985 input place)) ≤ m → length walked ≤ longest_line * length records + m
  walked-within m h =
      omega (
        arith,
        length-append (record_texts records) (last_text (walk 1985 input).last),
        texts-small records (all-accepted 1985 input),
        ap (λ (f : Found). length (last_text f)) (ends_there 1985 input),
      )

  -- 84 records leave too few bytes for a header, so that the last line is short; fewer records leave room for any last line
  walked-small : length input ≤ longest_input → length walked ≤ most_records * longest_line + length (refused_line 1)
  unfolding refused_line decimal_text digits_in
  walked-small h = by-test (ltb (length records) most_records) refl
    where
      by-test : (t : Bool) → ltb (length records) most_records ≡ t → length walked ≤ most_records * longest_line + 10
      by-test true e = omega (arith, ltb-true (length records) most_records e, walked-within 11 (last-small input place))
      by-test false e =
          let many = ltb-false (length records) most_records e in
          let i = inside in
          omega (arith, i.0, i.1, walked-within 10 (last-short input place (omega (arith, i.0, i.1))))

  pub listing-small : length (listing input) ≤ longest_listing
  unfolding listing
  listing-small = by-test (ltb longest_input (length input)) refl
    where
      by-test : (t : Bool) → ltb longest_input (length input) ≡ t
          → length (header_line ++ cond t (refused_line 24) walked) ≤ longest_listing
      by-test true e = omega (arith, length-append header_line (refused_line 24), refused_line-length 2 24 (lit< tt) (lit< tt))
      by-test false e =
          omega (arith, length-append header_line walked, walked-small (ltb-false longest_input (length input) e))

pub never-21 : (input out : List ℕ) → longest_listing ≤ length out → text_refusal out (listing input) ≡ 0
never-21 input out h = not-refused out 0 (listing input) (omega (arith, listing-small input))
