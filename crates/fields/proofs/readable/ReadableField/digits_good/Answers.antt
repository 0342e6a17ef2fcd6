use mathlib.Core.Path.{◌∙◌}
use Rattle.fields.proofs.Steps.{digits_decimal, digits-binary}
use Rattle.fields.proofs.readable.ReadableField.digits_good.Goals as goal

pub returns-then-decimal : goal.returns-then-decimal
returns-then-decimal c =
    let a = c.args in
    c.decimal_digits.ensures
    ∙ digits_decimal a.self.field a.self.readable a.bytes.now c.first_bit.result c.read_bits-code.result
    c.first_bit.ensures c.read_bits-code.ensures.0 c.if-decimal.true

pub returns : goal.returns
returns c = let a = c.args in digits-binary a.self.field a.bytes.now c.if-decimal.false
