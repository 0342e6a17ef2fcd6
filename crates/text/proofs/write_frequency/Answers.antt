use mathlib.Core.Path.{refl}
use Rattle.numbers.proofs.Writing.{written_both}
use Rattle.text.proofs.write_frequency.Goals as goal

pub returns : goal.returns
returns c =
    written_both refl c.write_fixed-comma_at.ensures c.write_byte.ensures
