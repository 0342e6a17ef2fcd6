use mathlib.Core.Path.{◌∙◌}
use Rattle.fields.proofs.Steps.{read-decimal, read-signed, read-binary}
use Rattle.fields.proofs.readable.ReadableField.value.Goals as goal

pub returns-then-decimal : goal.returns-then-decimal
returns-then-decimal c =
    let a = c.args in
    c.decimal_value.ensures
    ∙ read-decimal a.self.field a.self.readable a.bytes.now c.first_bit.result c.read_bits-code.result
    c.first_bit.ensures c.read_bits-code.ensures.0 c.if-decimal.true

pub returns-then-signed : goal.returns-then-signed
returns-then-signed c =
    let a = c.args in
    c.value_of.ensures
    ∙ read-signed a.self.field a.self.readable a.bytes.now c.first_bit.result c.read_bits-code.result
    c.first_bit.ensures c.read_bits-code.ensures.0 c.if-decimal.false c.if-signed.true

pub returns : goal.returns
returns c =
    let a = c.args in
    read-binary a.self.field a.self.readable a.bytes.now c.first_bit.result c.read_bits-code.result
    c.first_bit.ensures c.read_bits-code.ensures.0 c.if-decimal.false c.if-signed.false
