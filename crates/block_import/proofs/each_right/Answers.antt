use Prim.Native.Nat.{ℕ, ◌+◌, ◌-◌, ◌*◌}
use mathlib.Core.Path.{◌≡◌, refl, ap, ◌∙◌}
use native.Mathlib.Omega.{arith}
use lib.ListN.{take, drop}
use borrow.Author.Rules.{rules}
use borrow.Author.Tests.{tests}
use Rattle.std.proofs.lemmas.Iterator.{YieldsList-from_range}
use Rattle.std.proofs.lemmas.Iterator.Search.{all_from_yields_List}
use Rattle.block_check.specs.Check.{block_bytes}
use Rattle.block_layout.specs.Carried.{block_at}
use Rattle.block_layout.specs.Refusals.{block_right}
use Rattle.block_import.proofs.Parts.{block-part}
use Rattle.block_import.proofs.Tests.{ranged}
use Rattle.block_import.proofs.each_right.Goals as goal

pub returns : goal.returns
returns c =
    let number = c.args.number in
    let n = c.args.n in
    let s = c.args.blocks.now in
    let test = λ (i : ℕ). block_right number n i (block_at s i) in
    all_from_yields_List test _ _ c.all.result c.all.ensures.ran
    (YieldsList-from_range 0 n n refl (let e : n - 0 ≡ n = omega arith in e))
    (λ i b q k.
    let h : (q ≡ _) × (b ≡ block_right number n i (take (block_bytes * i + block_bytes - block_bytes * i) (drop (block_bytes * i) s))) =
    search (rules, tests) in
    (h.0, h.1 ∙ ap (block_right number n i) (block-part s i)))
    ∙ ranged test n
