-- Numbers that a 64-bit float holds exactly. On any cells whatever, the totals of a second are such numbers, so that a mean is
-- one division of two of them. FORMAT, "The index of seconds".
use Rattle.std.specs.Prelude.{◌≤◌, List, nat_abs, get_or}
use Rattle.floats.specs.Whole.{exact_limit}
use Rattle.totals.specs.declared.Total.{Total}
use Rattle.totals.specs.Total.{no_total}

-- the two numbers of a channel's total that means divide
pub record ExactTotal (t : Total) : Type 0 where
  pub sums : nat_abs t.sum ≤ exact_limit
  pub squared : t.squares ≤ exact_limit

-- those of the four channels
pub record ExactTotals (totals : List Total) : Type 0 where
  pub one : ExactTotal (get_or totals 0 no_total)
  pub two : ExactTotal (get_or totals 1 no_total)
  pub three : ExactTotal (get_or totals 2 no_total)
  pub four : ExactTotal (get_or totals 3 no_total)
