use mathlib.Core.Path.{refl, sym, ap, ◌∙◌}
use mathlib.Core.List.{List}
use Prim.Native.Nat.{ℕ}
use native.Mathlib.Omega.{arith}
use lib.ListN.{get_or}
use borrow.Author.Rules.{rules}
use Rattle.lists.proofs.Fill.{tab-ext}
use Rattle.totals.specs.declared.Total.{Total}
use Rattle.totals.specs.Total.{no_total}
use Rattle.index_query.specs.Exact.{ExactTotal}
use Rattle.index_query.proofs.Each.{four_callable}
use Rattle.index_means.specs.Means.{no_means, means_of, each_means}
use Rattle.index_means.proofs.each_means.Goals as goal

pub map-requires : goal.map-requires
map-requires c =
    (omega arith, (omega arith, (omega arith, four_callable ExactTotal no_total _ _ (search rules) (search rules) (search rules) (search rules) (search rules) (λ x g r. search rules) (λ x h. search rules))))

pub returns : goal.returns
returns c =
    let t = c.args.totals in
    tab-ext (λ (i : ℕ). means_of (get_or t i no_total) c.args.count) 4 no_means c.map.result c.map.ensures.items.long
    (λ i h. let call = c.map.ensures.items.at i no_total no_means h in search rules)
    ∙ ap (λ (l : List Total). each_means l c.args.count)
    (sym (tab-ext (λ (i : ℕ). get_or t i no_total) 4 no_total t (search rules) (λ i h. refl)))
