use lib.Dec.{eqb}
use Rattle.block_check.proofs.passes.Goals as goal

pub returns : goal.returns
returns c = λ t. eqb (c.word_at.ensures.0 t) (c.check.ensures.0 t)
