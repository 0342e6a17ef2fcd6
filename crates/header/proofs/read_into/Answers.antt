-- What the array held does not matter: every one of its places gets a value.
use mathlib.Core.Path.{sym, ap, ◌∙◌}
use Prim.Native.Nat.{ℕ}
use mathlib.Core.List.{List, ◌++◌}
use Rattle.fields.specs.Table.{read_all}
use Rattle.header_parts.proofs.Laws.{then-placed, whole}
use Rattle.header.specs.Format.{common, common1, common2, common3, common4, common5, field_count}
use Rattle.header.specs.Edition.{edition_of}
use Rattle.header.proofs.Sound.{own-whole}
use Rattle.header.proofs.read_into.Goals as goal

pub returns : goal.returns
returns c =
    let n = c.args.edition in
    let b = c.args.bytes.now in
    then-placed 40 (read_all (edition_of n).own b) c.read_own.ensures (
    then-placed 32 (read_all common5 b) c.read_part-5.ensures (
    then-placed 24 (read_all common4 b) c.read_part-4.ensures (
    then-placed 16 (read_all common3 b) c.read_part-3.ensures (
    then-placed 8 (read_all common2 b) c.read_part-2.ensures (
    then-placed 0 (read_all common1 b) c.read_part.ensures (
    sym (whole 0 field_count c.args.values.now c.told-values)))))))
    ∙ ap (λ (own : List ℕ). read_all common b ++ own) (own-whole n b)
