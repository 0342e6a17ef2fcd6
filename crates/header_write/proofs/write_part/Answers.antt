use Rattle.std.proofs.Common.{◌≡◌, ℕ, ◌+◌, ◌∙◌, List, get_or, ap, sym, arith}
use Rattle.fields.specs.Field.{none, write_value}
use Rattle.header_parts.specs.Parts.{cells, rows_written}
use Rattle.header_parts.proofs.Laws.{whole, eight}
use Rattle.header_write.proofs.write_part.Goals as goal

pub returns : goal.returns
returns g c =
    let fs = c.ROWS-rows.result in
    let at = c.AT-at.result in
    let v = c.args.values.now in
    let b = c.args.bytes.now in
    let same : fs ≡ g.P.Part.ROWS = c.ROWS-rows.ensures in
    let first : at ≡ g.P.Part.AT = c.AT-at.ensures in
    let row : ℕ → List ℕ → List ℕ = λ k. write_value (get_or fs k none) (get_or v (at + k) 0) in
    c.write_field-8.ensures ∙ ap (row 7) (
    c.write_field-7.ensures ∙ ap (row 6) (
    c.write_field-6.ensures ∙ ap (row 5) (
    c.write_field-5.ensures ∙ ap (row 4) (
    c.write_field-4.ensures ∙ ap (row 3) (
    c.write_field-3.ensures ∙ ap (row 2) (
    c.write_field-2.ensures ∙ ap (row 1) c.write_field.ensures))))))
    ∙ (λ i. rows_written (whole none 8 fs (omega arith) i) (sym (eight 0 at v) i) b)
    ∙ (λ i. rows_written (same i) (cells (first i) 8 v) b)
