use mathlib.Core.Path.{◌≡◌}
use native.Mathlib.Omega.{arith}
use mir.Syntax.{w64}
use mir.Val.{to_z, of_z}
use mir.ValLaws.{to_z-of_z}
use Rattle.index_means.proofs.Dividing.{divided}
use Rattle.index_means.proofs.means_of.Goals as goal

pub returns : goal.returns
returns c =
    let back : to_z w64 (of_z w64 c.args.total.sum) ≡ c.args.total.sum = to_z-of_z w64 _ (record { sfits = omega arith }) in
    rw back (divided _ _ c.requires.0 c.requires.1 (λ z. omega (arith, c.if-count-eq0.false, z)))
