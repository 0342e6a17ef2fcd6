use Rattle.index_open.proofs.Opened.{cleared-part}
use Rattle.index_open.proofs.clear.Goals as goal

pub returns : goal.returns
returns c = cleared-part c.args.cells.now c.fill.new.self _ c.requires (c.fill.ensures.after (λ y e. e))
