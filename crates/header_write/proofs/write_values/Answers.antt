use mathlib.Core.Path.{ap, ◌∙◌}
use Prim.Native.Nat.{ℕ}
use mathlib.Core.List.{List}
use borrow.Author.Rules.{rules}
use Rattle.fields.specs.Table.{write_all}
use Rattle.header_parts.specs.Parts.{cells}
use Rattle.header_parts.proofs.Laws.{whole}
use Rattle.header.specs.Format.{common2, common3, common4, common5, field_count}
use Rattle.header.specs.Edition.{edition_of, fields_of}
use Rattle.header_write.proofs.write_values.Goals as goal

pub returns : goal.returns
returns c =
    let a = c.args in
    let n = a.edition in
    let v = a.values in
    c.write_own.ensures ∙ ap (write_all (edition_of n).own (cells 40 8 v)) (
    c.write_part-5.ensures ∙ ap (write_all common5 (cells 32 8 v)) (
    c.write_part-4.ensures ∙ ap (write_all common4 (cells 24 8 v)) (
    c.write_part-3.ensures ∙ ap (write_all common3 (cells 16 8 v)) (
    c.write_part-2.ensures ∙ ap (write_all common2 (cells 8 8 v)) c.write_part.ensures))))
    ∙ ap (λ (l : List ℕ). write_all (fields_of n) l a.bytes.now) (whole 0 field_count v (search (rules, c.well_formed)))
