use mathlib.Core.Path.{refl, ◌∙◌}
use mathlib.Core.Bool.{◌||◌}
use Prim.Native.Nat.{ℕ}
use native.Mathlib.Omega.{arith}
use lib.Dec.{eqb}
use borrow.Author.Rules.{rules}
use borrow.Author.Tests.{tests}
use Rattle.std.proofs.lemmas.Iterator.{YieldsList-from_range}
use Rattle.std.proofs.lemmas.Iterator.Search.{all_from_yields_List}
use Rattle.index_model.specs.Opening.{in_window}
use Rattle.index_model.specs.Cells.{cell}
use Rattle.index_model.specs.Calls.{rows_inside}
use Rattle.index_query.proofs.Testing.{made-below}
use Rattle.index_query.proofs.rows_inside.Goals as goal

pub returns : goal.returns
unfolding rows_inside
returns c =
    let a = c.args in
    all_from_yields_List (λ (i : ℕ). eqb (cell a.rows.now i 0) 0 || in_window a.o (cell a.rows.now i 3)) _ _ _ c.all.ensures.ran
    (YieldsList-from_range 0 a.o.highest_number a.o.highest_number refl (omega arith)) (λ x b q k. search (rules, tests))
    ∙ made-below (rows_inside a.o a.rows.now) (λ (i : ℕ). eqb (cell a.rows.now i 0) 0 || in_window a.o (cell a.rows.now i 3)) (λ k. refl) a.o.highest_number refl
