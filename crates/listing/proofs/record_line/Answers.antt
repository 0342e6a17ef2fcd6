-- The record's own refusal, or what its line put into the buffer answers. Assumes nothing.
use mathlib.Core.Path.{ap, ◌∙◌}
use Prim.Native.Nat.{ℕ}
use Rattle.text.specs.declared.Columns.{Columns}
use Rattle.text.specs.Placed.{answer_at, buffer_at}
use Rattle.text.specs.Text.{record_line}
use Rattle.listing.specs.Listing.{record_text, text_answer, buffer_after}
use Rattle.listing.proofs.Answers.{from_start, record-accepted}
use Rattle.listing.proofs.record_line.Goals as goal

pub returns : goal.returns
unfolding record_text
returns c =
    let a = c.args in
    let b = a.bytes.now in
    let out = a.out.now in
    let put = c.put_record_line.ensures in
    let text = record_text b in
    let said = from_start out text (put.result_value ∙ ap (λ (x : Columns). answer_at out 0 (record_line x)) c.read_columns.ensures)
    (put.out_after ∙ ap (λ (x : Columns). buffer_at out 0 (record_line x)) c.read_columns.ensures) in
    let same = record-accepted b out c.in_ok-judge.ensures in record {
      result_value = said.0 ∙ ap (λ (n : ℕ). text_answer n text) same;
      out_after = said.1 ∙ ap (λ (n : ℕ). buffer_after n out text) same;
    }
