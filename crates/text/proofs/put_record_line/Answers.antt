-- The line is written to a buffer of its own, which holds any, and put into the lent one.
use mathlib.Core.Path.{◌≡◌, ap, sym, ◌∙◌}
use Prim.Native.Nat.{◌≤◌}
use native.Mathlib.Omega.{arith}
use lib.ListN.{length, take}
use lib.Seq.{length-take-le}
use Rattle.text.specs.Text.{record_line}
use Rattle.text.specs.Placed.{answer_at, buffer_at}
use Rattle.text.proofs.Judging.{front}
use Rattle.text.proofs.Line.{longest_of_words, word_line}
use Rattle.text.proofs.put_record_line.Goals as goal
use Rattle.text.proofs.put_record_line.Goals.{After-write_record_line-length}

-- what was written is the line
written : (c : After-write_record_line-length)
    → (c.write_record_line-length.result ≤ length c.write_record_line-length.new.out)
    × (take c.write_record_line-length.result c.write_record_line-length.new.out ≡ record_line c.args.columns)
written c =
    let small : length (record_line c.args.columns) ≤ longest_of_words =
    word_line c.args.columns (omega arith) (omega arith) (omega arith) (omega arith) (omega arith) in
    front (omega (arith, small)) c.write_record_line-length.ensures

pub returns : goal.returns
returns c =
    let a = c.args in
    let line = (written (goal.at.returns c).After-write_record_line-length).1 in
    record {
      result_value = c.put_text.ensures.result_value ∙ ap (answer_at a.out.now a.at) line;
      out_after = c.put_text.ensures.out_after ∙ ap (buffer_at a.out.now a.at) line;
    }

pub slice_bounds-line-end : goal.slice_bounds-line-end
slice_bounds-line-end c = (written (goal.at.slice_bounds-line-end c).After-write_record_line-length).0

pub slice_bounds-put_text-end : goal.slice_bounds-put_text-end
slice_bounds-put_text-end c =
    sym (length-take-le _ _ (written (goal.at.slice_bounds-put_text-end c).After-write_record_line-length).0)
