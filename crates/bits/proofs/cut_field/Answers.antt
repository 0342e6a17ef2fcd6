use Rattle.bits.proofs.Reading.{answer}
use Rattle.bits.proofs.cut_field.Goals as goal

pub returns : goal.returns
returns c =
    let a = c.args in
    answer a.start a.width.bits a.bytes.now c.window.result c.two_to.result c.two_to-2.result
    c.window.ensures c.two_to.ensures.0 c.two_to-2.ensures.0
