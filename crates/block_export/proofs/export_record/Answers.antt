use mathlib.Core.Path.{sym}
use Rattle.record.proofs.Accepted.{length-bounds}
use Rattle.block_export.proofs.export_record.Goals as goal

pub store_blocks-requires : goal.store_blocks-requires
store_blocks-requires c =
    (c.block_count-n.ensures, c.if-out-n.false, (length-bounds c.args.edition c.args.source.now (sym c.in_ok-judge.ensures)).1)
