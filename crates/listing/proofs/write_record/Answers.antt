use mathlib.Core.Path.{ap, ◌∙◌}
use Rattle.text.specs.declared.Columns.{Columns}
use Rattle.text.specs.Placed.{answer_at, buffer_at}
use Rattle.text.specs.Text.{record_line}
use Rattle.text.proofs.Judging.{put-ok, put_written}
use Rattle.listing.specs.Listing.{record_text}
use Rattle.listing.proofs.write_record.Goals as goal

pub unwrap-requires : goal.unwrap-requires
unfolding record_text
unwrap-requires c =
    let out = c.args.out.now in
    put-ok out c.args.at (record_text c.args.bytes.now) c.put_record_line.result c.requires
    (c.put_record_line.ensures.result_value ∙ ap (λ (x : Columns). answer_at out c.args.at (record_line x)) c.read_columns.ensures)

pub returns : goal.returns
unfolding record_text
returns c =
    let out = c.args.out.now in
    let put = c.put_record_line.ensures in
    put_written out c.args.at (record_text c.args.bytes.now) c.requires c.unwrap.ensures
    (put.result_value ∙ ap (λ (x : Columns). answer_at out c.args.at (record_line x)) c.read_columns.ensures)
    (put.out_after ∙ ap (λ (x : Columns). buffer_at out c.args.at (record_line x)) c.read_columns.ensures)
