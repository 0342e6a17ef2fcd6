use Rattle.std.proofs.Common.{◌≡◌, List, ap, arith}
use Rattle.fields.specs.declared.Field.{Field}
use Rattle.fields.specs.Field.{none}
use Rattle.header_parts.specs.Parts.{rows_read}
use Rattle.header_parts.proofs.Laws.{whole}
use Rattle.header.proofs.read_part.Goals as goal

pub returns : goal.returns
returns g c =
    let same : c.ROWS-rows.result ≡ g.P.Part.ROWS = c.ROWS-rows.ensures in
    let named = ap (λ (fs : List Field). rows_read fs c.args.bytes.now) (whole none 8 c.ROWS-rows.result (omega arith)) in
    cc
