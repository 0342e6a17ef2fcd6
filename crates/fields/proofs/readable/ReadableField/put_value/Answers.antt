use mathlib.Core.Path.{◌∙◌}
use Rattle.fields.proofs.Steps.{written}
use Rattle.fields.proofs.readable.ReadableField.put_value.Goals as goal

pub returns : goal.returns
returns c =
    let a = c.args in
    c.write_bits.ensures
    ∙ written a.self.field a.self.readable a.value c.first_bit.result c.code_of.result a.bytes.now
    c.first_bit.ensures c.code_of.ensures
