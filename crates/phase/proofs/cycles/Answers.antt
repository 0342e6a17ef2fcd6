use Prim.Native.Nat.{ℕ, ◌%◌, ◌^◌, ◌<◌}
use mathlib.Core.Path.{◌≡◌, ap, sym, ◌∙◌, subst}
use native.Mathlib.Omega.{arith}
use lib.IntN.{pos}
use lib.Pow.{pow_pos}
use Rattle.floats.specs.Whole.{quotient_of}
use Rattle.floats.proofs.Quotient.{whole-quotient}
use Rattle.phase.proofs.Quotient.{of-count}
use Rattle.phase.proofs.cycles.Goals as goal

pub returns : goal.returns
returns g c =
    let n : ℕ = c.args.count % 2 ^ 48 in
    let p : ℕ = c.max.result in
    let small : p < 2 ^ 32 = omega (arith, c.max.ensures, g.PER_CYCLE.fits) in record {
      value = whole-quotient (pos n) p (omega arith) (omega (arith, c.max.ensures)) (omega (arith, small)) ∙ ap (quotient_of (pos n)) c.max.ensures;
      exactly =
          λ bits e.
          let some : 0 < g.row.PER_CYCLE = subst (λ (d : ℕ). 0 < d) (sym e) (pow_pos bits) in
          of-count bits p n (let same : p ≡ g.row.PER_CYCLE = omega (arith, c.max.ensures, some) in same ∙ e) small (omega arith);
    }
