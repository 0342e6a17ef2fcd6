use mathlib.Core.Path.{◌≡◌, refl, ap, ◌∙◌}
use native.Mathlib.Nat.{pos_of_ne-zero}
use native.Mathlib.Omega.{arith}
use Rattle.totals.specs.Total.{sum_of, added_of, kept_of, total_of, totals_of}
use Rattle.totals.specs.Running.{running_of, runnings_of}
use Rattle.totals.proofs.Running.{runnings-totals}
use Rattle.totals.proofs.sum_sets.Goals as goal

pub returns-then-count-eq0 : goal.returns-then-count-eq0
unfolding totals_of total_of sum_of added_of kept_of
returns-then-count-eq0 c = rw c.if-count-eq0.true

pub loop-k-init : goal.loop-k-init
unfolding runnings_of running_of sum_of added_of
loop-k-init c = refl

pub returns : goal.returns
returns c =
    let l = c.loop-k in
    let e : l.k ≡ c.args.count = omega arith in
    l.invariant ∙ ap (runnings_of c.args.stretch.now) e
    ∙ runnings-totals c.args.stretch.now c.args.count (pos_of_ne-zero c.if-count-eq0.false)
