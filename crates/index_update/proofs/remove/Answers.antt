use mathlib.Core.Path.{sym}
use native.Mathlib.Omega.{arith}
use Rattle.index_update.proofs.Accepted.{take-fits}
use Rattle.index_update.proofs.remove.Goals as goal

pub overflow_sub-number : goal.overflow_sub-number
overflow_sub-number c = omega (arith, (take-fits _ _ _ (sym c.in_ok-judge_remove.ensures)).1.0)

pub replace_row-requires : goal.replace_row-requires
replace_row-requires c = let fits = take-fits _ _ _ (sym c.in_ok-judge_remove.ensures) in (fits.0, omega (arith, fits.1.0, fits.1.1))
