-- The listing is made in a buffer that holds any, and put into the lent one. Assumes nothing.
use mathlib.Core.Path.{◌≡◌, ap, sym, ◌∙◌}
use mathlib.Core.List.{List}
use Prim.Native.Nat.{ℕ, ◌≤◌}
use native.Mathlib.Omega.{arith}
use lib.ListN.{length, take, length-append}
use lib.Seq.{length-take-le, take-append_seam}
use Rattle.text.specs.Placed.{answer_at, buffer_at}
use Rattle.listing.specs.Listing.{listing}
use Rattle.listing.proofs.Answers.{from_start}
use Rattle.listing.proofs.list_reel.Goals as goal
use Rattle.listing.proofs.list_reel.Goals.{After-list_whole-length}

-- the buffer begins with the listing
module _ (c : After-list_whole-length) where
  abbrev text : List ℕ
  text = listing c.args.input.now

  inside : c.list_whole-length.result ≤ length c.list_whole-length.new.out
  inside = omega (arith, c.list_whole-length.ensures.value, simp length-append at (ap length c.list_whole-length.ensures.out_after))

  front : take c.list_whole-length.result c.list_whole-length.new.out ≡ text
  front = (λ i. take (c.list_whole-length.ensures.value i) (c.list_whole-length.ensures.out_after i)) ∙ take-append_seam text _

pub slice_bounds-whole-end : goal.slice_bounds-whole-end
slice_bounds-whole-end c = inside (goal.at.slice_bounds-whole-end c).After-list_whole-length

pub slice_bounds-put_text-end : goal.slice_bounds-put_text-end
slice_bounds-put_text-end c = sym (length-take-le _ _ (inside (goal.at.slice_bounds-put_text-end c).After-list_whole-length))

pub returns : goal.returns
returns c =
    let out = c.args.out.now in
    let put = c.put_text.ensures in
    let begins = front (goal.at.returns c).After-list_whole-length in
    let said = from_start out (listing c.args.input.now) (put.result_value ∙ ap (answer_at out 0) begins)
    (put.out_after ∙ ap (buffer_at out 0) begins) in
    record { result_value = said.0; out_after = said.1 }
