use mathlib.Core.Path.{sym}
use Rattle.index_model.proofs.Limits.{within-limits}
use Rattle.index_query.proofs.is_consistent.Goals as goal

pub seconds_right-requires : goal.seconds_right-requires
seconds_right-requires c = within-limits _ _ (sym c.in_ok-judge_opening.ensures)
