-- The window with its field replaced; every sum and product fits in 64 bits.
use native.Mathlib.Omega.{arith}
use Rattle.bits.proofs.Writing.{Mixed}
use Rattle.bits.proofs.Writing as writes
use Rattle.bits.proofs.mixed.Goals as goal
use Rattle.bits.proofs.mixed.Goals.{After-two_to-t}

all : (c : After-two_to-t)
    → Mixed c.args.old c.args.after c.args.width.bits
    c.args.value c.two_to-p.result c.two_to-t.result
all c =
    let a = c.args in
    writes.mixed a.old a.after a.width.bits a.value c.two_to-p.result c.two_to-t.result
    c.ranges.old.fits (omega arith) c.two_to-p.ensures.0 c.two_to-t.ensures.0

pub overflow_mul-result : goal.overflow_mul-result
overflow_mul-result c = omega (arith, (all (goal.at.overflow_mul-result c).After-two_to-t).less, c.ranges.old.fits)

pub overflow_sub-result : goal.overflow_sub-result
overflow_sub-result c = (all (goal.at.overflow_sub-result c).After-two_to-t).less

pub overflow_mul-result-2 : goal.overflow_mul-result-2
overflow_mul-result-2 c = record { fits = (all (goal.at.overflow_mul-result-2 c).After-two_to-t).new }

pub overflow_add-result : goal.overflow_add-result
overflow_add-result c = record { fits = (all (goal.at.overflow_add-result c).After-two_to-t).sum }

pub returns : goal.returns
returns c = (all (goal.at.returns c).After-two_to-t).right
