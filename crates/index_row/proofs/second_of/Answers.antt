use Prim.Native.Nat.{ℕ, ◌/◌}
use mathlib.Core.Path.{ap}
use native.Mathlib.Omega.{arith}
use Rattle.index_model.specs.Records.{second_ms, second_in}
use Rattle.index_row.proofs.Samples.{tag_small}
use Rattle.index_row.proofs.second_of.Goals as goal

pub returns : goal.returns
unfolding second_in
returns c = (
  ap (λ (tag : ℕ). tag / second_ms) c.read_field-tag.ensures,
  omega (arith, c.read_field-tag.ensures, tag_small c.args.bytes.now),
)
