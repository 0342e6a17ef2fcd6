use Rattle.std.proofs.Common.{◌≡◌, ◌∙◌, ◌+◌, ℕ, Bool, ◌&&◌, get_or, ap, arith}
use native.Mathlib.Numerals.{unary_clauses}
use Rattle.fields.specs.Field.{none, fits_binary}
use Rattle.header_parts.specs.Parts.{rows_fit}
use Rattle.header_parts.proofs.Laws.{whole}
use Rattle.header_fits.proofs.fit_part.Goals as goal

pub returns : goal.returns
returns g c =
    let fs = c.ROWS-rows.result in
    let at = c.AT-at.result in
    let v = c.args.values.now in
    let same : fs ≡ g.P.Part.ROWS = c.ROWS-rows.ensures in
    let first : at ≡ g.P.Part.AT = c.AT-at.ensures in
    let row : ℕ → ℕ → Bool → Bool = λ k i. ◌&&◌ (fits_binary (get_or fs k none) (get_or v i 0)) in
    c.binary_fits.ensures ∙ ap (row 0 at) (
    c.binary_fits-from_1.ensures ∙ ap (row 1 (at + 1)) (
    c.binary_fits-from_2.ensures ∙ ap (row 2 (at + 2)) (
    c.binary_fits-from_3.ensures ∙ ap (row 3 (at + 3)) (
    c.binary_fits-from_4.ensures ∙ ap (row 4 (at + 4)) (
    c.binary_fits-from_5.ensures ∙ ap (row 5 (at + 5)) (
    c.binary_fits-from_6.ensures ∙ ap (row 6 (at + 6)) c.binary_fits-from_7.ensures))))))
    ∙ simp unary_clauses (λ i. rows_fit (whole none 8 fs (omega arith) i) at v c.args.rest)
    ∙ (λ i. rows_fit (same i) (first i) v c.args.rest)
