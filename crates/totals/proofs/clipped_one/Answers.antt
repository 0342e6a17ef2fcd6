use Rattle.std.proofs.Common.{◌≡◌, ap, ◌∙◌, Bool, true, false, cond, refl}
use mir.Val.{bool_byte}
use Rattle.totals.proofs.Bits.{clipped-bits}
use Rattle.totals.proofs.clipped_one.Goals as goal

one-or-none : (t : Bool) → bool_byte t ≡ cond t 1 0
one-or-none true = refl
one-or-none false = refl

pub returns : goal.returns
returns c = c.from.ensures ∙ ap bool_byte (clipped-bits c.ranges.sample) ∙ one-or-none _
