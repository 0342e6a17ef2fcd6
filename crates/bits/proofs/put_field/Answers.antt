use Rattle.bits.proofs.Writing.{done}
use borrow.Author.Rules.{rules}
use Rattle.bits.proofs.put_field.Goals as goal

pub returns : goal.returns
returns c =
    let a = c.args in
    done a.start a.width.bits a.value c.mixed-new.result c.window-old.result a.bytes.now c.store.new.bytes
    (λ j. search rules) (search rules) c.window-old.ensures c.mixed-new.ensures c.store.ensures
