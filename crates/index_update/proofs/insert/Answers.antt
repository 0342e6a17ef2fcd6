use mathlib.Core.Path.{sym, subst}
use native.Mathlib.Omega.{arith}
use Rattle.index_update.specs.Inner.{Placed}
use Rattle.index_update.proofs.Accepted.{put-fits}
use Rattle.index_update.proofs.insert.Goals as goal

pub overflow_sub-number : goal.overflow_sub-number
overflow_sub-number c = omega (arith, c.read_field-number.ensures, (put-fits _ _ _ (sym c.in_ok-judge_insert.ensures)).1.0)

pub insert_row-requires : goal.insert_row-requires
insert_row-requires c =
    let fits = put-fits _ _ _ (sym c.in_ok-judge_insert.ensures) in (
      fits.0,
      omega (arith, c.read_field-number.ensures, fits.1.0, fits.1.1),
      subst (Placed c.args.o) (sym c.second_of-second.ensures.0) fits.2,
    )
