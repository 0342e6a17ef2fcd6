-- The line is written to a buffer of its own, which holds any, and put into the lent one.
use mathlib.Core.Path.{◌≡◌, ap, sym, ◌∙◌}
use Prim.Native.Nat.{◌≤◌}
use native.Mathlib.Omega.{arith}
use native.Mathlib.Nat.{lt_of_lt_of_le}
use lib.Dec.{lit<, lit≤}
use lib.ListN.{length, take}
use lib.Seq.{length-take-le}
use Rattle.text.specs.Text.{refused_line}
use Rattle.text.specs.Placed.{answer_at, buffer_at}
use Rattle.text.proofs.Judging.{front}
use Rattle.text.proofs.Line.{longest_of_words, refused_line-length}
use Rattle.text.proofs.put_refused_line.Goals as goal
use Rattle.text.proofs.put_refused_line.Goals.{After-write_refused_line-length}

-- what was written is the line
written : (c : After-write_refused_line-length)
    → (c.write_refused_line-length.result ≤ length c.write_refused_line-length.new.out)
    × (take c.write_refused_line-length.result c.write_refused_line-length.new.out ≡ refused_line c.args.number)
written c =
    let h = refused_line-length 20 c.args.number (lit< tt) (lt_of_lt_of_le c.ranges.number.fits (lit≤ tt)) in
    let small : length (refused_line c.args.number) ≤ longest_of_words = omega arith in
    front (omega (arith, small)) c.write_refused_line-length.ensures

pub returns : goal.returns
returns c =
    let a = c.args in
    let line = (written (goal.at.returns c).After-write_refused_line-length).1 in
    record {
      result_value = c.put_text.ensures.result_value ∙ ap (answer_at a.out.now a.at) line;
      out_after = c.put_text.ensures.out_after ∙ ap (buffer_at a.out.now a.at) line;
    }

pub slice_bounds-line-end : goal.slice_bounds-line-end
slice_bounds-line-end c = (written (goal.at.slice_bounds-line-end c).After-write_refused_line-length).0

pub slice_bounds-put_text-end : goal.slice_bounds-put_text-end
slice_bounds-put_text-end c =
    sym (length-take-le _ _ (written (goal.at.slice_bounds-put_text-end c).After-write_refused_line-length).0)
