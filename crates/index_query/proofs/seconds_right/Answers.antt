use mathlib.Core.Path.{refl, ◌∙◌}
use Prim.Native.Nat.{ℕ}
use native.Mathlib.Omega.{arith}
use borrow.Author.Rules.{rules}
use borrow.Author.Tests.{tests}
use Rattle.std.proofs.lemmas.Iterator.{YieldsList-from_range}
use Rattle.std.proofs.lemmas.Iterator.Search.{all_from_yields_List}
use Rattle.index_model.specs.Cells.{width}
use Rattle.index_model.specs.Buffers.{lent}
use Rattle.index_model.specs.Calls.{cells_right, seconds_right}
use Rattle.index_query.proofs.Testing.{made-below}
use Rattle.index_query.proofs.seconds_right.Goals as goal

pub returns : goal.returns
unfolding seconds_right
returns c =
    let o = c.args.o in
    let b = lent c.args.rows.now c.args.seconds.now in
    all_from_yields_List (λ (k : ℕ). cells_right o b k width) _ _ _ c.all.ensures.ran
    (YieldsList-from_range 0 o.second_count o.second_count refl (omega arith)) (λ x r q k. search (rules, tests))
    ∙ made-below (seconds_right o b) (λ (k : ℕ). cells_right o b k width) (λ k. refl) o.second_count refl
