use Prim.Native.Nat.{ℕ}
use mathlib.Core.Path.{◌≡◌, refl, ap, ◌∙◌}
use mathlib.Core.Bool.{Bool, true, false, not, cond}
use mathlib.Core.List.{List}
use native.Mathlib.Omega.{arith}
use lib.Dec.{ltb}
use borrow.Author.Rules.{rules}
use borrow.Author.Tests.{tests, lt-ltb, le-ltb, eqb-true, eqb-false}
use Rattle.std.specs.Prelude.{Option, Some, None}
use Rattle.std.proofs.lemmas.Iterator.Search.{position_from_yields_List}
use Rattle.lists.proofs.Fill.{length-tab}
use Rattle.lists.proofs.Tests.{first-not}
use Rattle.block_check.specs.Check.{passes}
use Rattle.block_layout.specs.Carried.{whole_blocks, block_at}
use Rattle.block_layout.specs.Refusals.{checks_pass, first_bad}
use Rattle.block_layout.proofs.FirstBad.{none-bad}
use Rattle.block_import.proofs.Blocks.{blocks-listed, first-listed}
use Rattle.block_import.proofs.bad_block.Goals as goal

-- the first bad block is one of them, unless all have their check
inside : (s : List ℕ) (t : Bool) → checks_pass s ≡ t → ltb (first_bad s) (whole_blocks s) ≡ not t
unfolding first_bad
inside s true e = le-ltb _ _ (omega (arith, eqb-true _ _ (none-bad s ∙ e)))
inside s false e =
    lt-ltb _ _ (omega (arith, eqb-false _ _ (none-bad s ∙ e), (first-not (λ (i : ℕ). passes (block_at s i)) (whole_blocks s)).most))

turned : (t : Bool) (x y : Option ℕ) → cond (not t) x y ≡ cond t y x
turned true x y = refl
turned false x y = refl

pub returns : goal.returns
returns c =
    let s = c.args.blocks.now in
    position_from_yields_List (λ (b : List ℕ). not (passes b)) _ _ c.position.result c.position.ensures.ran
    (blocks-listed s c.chunks_exact.ensures.rest c.chunks_exact.ensures.size) (λ x b q k. search (rules, tests))
    ∙ (λ t. cond (ltb (first-listed s t) (length-tab (block_at s) 0 (whole_blocks s) t)) (Some (first-listed s t)) None)
    ∙ ap (λ (t : Bool). cond t (Some (first_bad s)) None) (inside s (checks_pass s) refl)
    ∙ turned (checks_pass s) (Some (first_bad s)) None
