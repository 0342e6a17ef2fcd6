use native.Mathlib.Omega.{arith}
use borrow.Author.Rules.{rules}
use Rattle.lists.proofs.Fill.{filled_more, tab-ext}
use Rattle.c_answers.specs.Out.{longest_segment}
use Rattle.c_answers.proofs.segment_bytes.Goals as goal

pub loop-k-preserved : goal.loop-k-preserved
loop-k-preserved c = filled_more _ (search rules) (search rules) c.loop-k.invariant

pub returns : goal.returns
returns c =
    let l = c.loop-k in
    tab-ext _ longest_segment 0 l.bytes (search rules) (λ k h. l.invariant.low k (omega (arith, h, l.auto)))
