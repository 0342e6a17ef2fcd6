use Prim.Native.Nat.{ℕ, ◌%◌}
use mathlib.Core.Path.{ap, ◌∙◌}
use lib.Dec.{eqb}
use lib.Bits.{bit_and}
use Rattle.bits.specs.Decimal.{most_digits}
use Rattle.bits.proofs.AllDigits.{ones, above, all_digits}
use Rattle.bits.proofs.digits_good.Goals as goal

pub returns : goal.returns
unfolding ones
returns c =
    let a = c.args in
    ap (λ (p : ℕ). eqb (bit_and (above a.code) (ones most_digits % p)) 0) c.two_to.ensures.0
    ∙ all_digits a.count.digits a.code a.count.few
