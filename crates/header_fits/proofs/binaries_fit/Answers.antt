use Prim.Native.Nat.{ℕ}
use mathlib.Core.Path.{◌≡◌, refl, ap, ◌∙◌}
use mathlib.Core.Bool.{true}
use mathlib.Core.List.{List}
use borrow.Author.Rules.{rules}
use Rattle.fields.specs.Field.{binary_fits, fits_binary}
use Rattle.fields.specs.Table.{all_fit}
use Rattle.header_parts.specs.Parts.{cells, rows_fit}
use Rattle.header_parts.proofs.Laws.{whole}
use Rattle.header.specs.Format.{common1, common2, common3, common4, common5, field_count}
use Rattle.header.specs.Edition.{edition_of, fields_of}
use Rattle.header.proofs.Sound.{of-editions}
use Rattle.header_fits.proofs.binaries_fit.Goals as goal

-- the own rows of each edition are readable, so their tests are the same
own-fit : (n : ℕ) (v : List ℕ) → rows_fit (edition_of n).own 40 v true ≡ all_fit binary_fits (edition_of n).own (cells 40 8 v)
unfolding fits_binary
own-fit n v = of-editions (λ e. rows_fit e.own 40 v true ≡ all_fit binary_fits e.own (cells 40 8 v)) refl refl n

pub returns : goal.returns
unfolding fits_binary
returns c =
    let n = c.args.edition in
    let v = c.args.values in
    c.fit_part.ensures ∙ ap (rows_fit common1 0 v) (
    c.fit_part-from_2.ensures ∙ ap (rows_fit common2 8 v) (
    c.fit_part-from_3.ensures ∙ ap (rows_fit common3 16 v) (
    c.fit_part-from_4.ensures ∙ ap (rows_fit common4 24 v) (
    c.fit_part-from_5.ensures ∙ ap (rows_fit common5 32 v) (
    c.fit_own-own.ensures ∙ own-fit n v)))))
    ∙ ap (all_fit binary_fits (fields_of n)) (whole 0 field_count v (search (rules, c.well_formed)))
