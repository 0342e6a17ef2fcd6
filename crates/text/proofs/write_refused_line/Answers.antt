use mathlib.Core.Path.{refl}
use Rattle.text.specs.Text.{refused_line}
use Rattle.numbers.proofs.Writing.{written_both}
use Rattle.text.proofs.write_refused_line.Goals as goal

pub returns : goal.returns
unfolding refused_line
returns c =
    written_both refl c.write_text-number_at.ensures
    (written_both refl c.write_decimal-end.ensures c.write_byte.ensures)
