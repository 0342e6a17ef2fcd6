use mathlib.Core.Path.{sym}
use Rattle.index_model.proofs.Limits.{within-limits}
use Rattle.index_open.proofs.open.Goals as goal

pub clear-requires : goal.clear-requires
clear-requires c = (within-limits _ _ (sym c.in_ok-judge_opening.ensures)).rows_long

pub clear-requires-2 : goal.clear-requires-2
clear-requires-2 c = (within-limits _ _ (sym c.in_ok-judge_opening.ensures)).seconds-long
