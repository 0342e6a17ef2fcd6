-- The header line, then the line of 24 or those of the walk; the buffer holds any listing. Assumes nothing.
use Prim.Native.Nat.{ℕ, ◌≤◌}
use mathlib.Core.Path.{◌≡◌, sym}
use mathlib.Core.List.{List, ◌++◌}
use native.Mathlib.Omega.{arith}
use lib.ListN.{length}
use Rattle.numbers.specs.Number.{decimal_text, digits_in}
use Rattle.text.specs.Text.{header_line, refused_line}
use Rattle.numbers.specs.Writing.{Room, Written}
use Rattle.text.proofs.Judging.{put-ok, put_written}
use Rattle.numbers.proofs.Writing.{room-rest, written_both}
use Rattle.listing.specs.Listing.{listing, longest_listing, text_over}
use Rattle.listing.proofs.Answers.{whole-text}
use Rattle.listing.proofs.Cases.{too_long, not-too-long}
use Rattle.listing.proofs.Enough.{listing-small}
use Rattle.listing.proofs.list_whole.Goals as goal
use Rattle.listing.proofs.list_whole.Goals.{After-unwrap-at}

module _ (c : After-unwrap-at) where
  abbrev input : List ℕ
  input = c.args.input.now

  abbrev out : List ℕ
  out = c.args.out.now

  size : length out ≡ longest_listing
  unfolding header_line refused_line decimal_text digits_in
  size = omega arith

  fits : length (listing input) ≤ length out
  fits = omega (arith, size, listing-small input)

  room : Room out 0 header_line
  room = record { enough = omega (arith, size) }

  header : Written out 0 header_line c.unwrap-at.result c.put_header_line.new.out
  header =
      put_written out 0 header_line room c.unwrap-at.ensures c.put_header_line.ensures.result_value c.put_header_line.ensures.out_after

  -- what is written behind the header line, so that both are the listing
  module _ {text : List ℕ} (e : listing input ≡ header_line ++ text) where
    room-behind : Room c.put_header_line.new.out c.unwrap-at.result text
    room-behind = room-rest (sym e) (record { enough = omega (arith, fits) }) header

    listed : {next : ℕ} {after : List ℕ} → Written c.put_header_line.new.out c.unwrap-at.result text next after
        → (next ≡ length (listing input)) × (after ≡ text_over (listing input) out) × (length out ≡ longest_listing)
    listed w = let t = whole-text out (listing input) fits (written_both (sym e) header w) in (t.0, t.1, size)

pub unwrap-at-requires : goal.unwrap-at-requires
unfolding header_line refused_line decimal_text digits_in
unwrap-at-requires c =
    let room : Room c.args.out.now 0 header_line = record { enough = omega arith } in
    put-ok c.args.out.now 0 header_line c.put_header_line.result room c.put_header_line.ensures.result_value

pub write_refusal-requires : goal.write_refusal-requires
write_refusal-requires c =
    room-behind (goal.at.write_refusal-requires c).After-unwrap-at (too_long c.args.input.now c.if-input-gt-LONGEST_INPUT.true)

pub returns-then-input-gt-LONGEST_INPUT : goal.returns-then-input-gt-LONGEST_INPUT
returns-then-input-gt-LONGEST_INPUT c =
    let t = listed (goal.at.returns-then-input-gt-LONGEST_INPUT c).After-unwrap-at (too_long c.args.input.now c.if-input-gt-LONGEST_INPUT.true) c.write_refusal.ensures in
    record { value = t.0; out_after = t.1; out_len = t.2 }

pub write_walk-requires : goal.write_walk-requires
write_walk-requires c =
    room-behind (goal.at.write_walk-requires c).After-unwrap-at (not-too-long c.args.input.now c.if-input-gt-LONGEST_INPUT.false)

pub returns : goal.returns
returns c =
    let t = listed (goal.at.returns c).After-unwrap-at (not-too-long c.args.input.now c.if-input-gt-LONGEST_INPUT.false) c.write_walk.ensures in
    record { value = t.0; out_after = t.1; out_len = t.2 }
