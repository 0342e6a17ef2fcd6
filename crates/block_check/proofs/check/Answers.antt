use Rattle.std.proofs.Common.{◌≡◌, ℕ, ◌%◌, refl, ap, sym, ◌∙◌, arith}
use Rattle.std.proofs.lemmas.List.{length-take}
use Rattle.block_check.specs.Check.{covered, weighted, modulus}
use Rattle.block_check.proofs.Weights.{weighted-clipped, weighted_taken, weighted_more}
use Rattle.block_check.proofs.check.Goals as goal

pub loop-k-init : goal.loop-k-init
unfolding weighted
loop-k-init c = record { most = omega arith; so_far = refl }

pub loop-k-preserved : goal.loop-k-preserved
loop-k-preserved c = record { most = omega arith; so_far = omega (arith, weighted_more) }

pub returns : goal.returns
returns c =
    let b = c.args.block.now in
    let n = c.min.result in
    let e : c.loop-k.k ≡ n = omega (arith, length-take n b) in (
      ap (λ (s : ℕ). s % modulus)
          (c.loop-k.invariant.so_far ∙ ap (weighted _) e ∙ weighted_taken b n ∙ ap (weighted b) c.min.ensures ∙ sym (weighted-clipped b covered)),
      omega arith,
    )
