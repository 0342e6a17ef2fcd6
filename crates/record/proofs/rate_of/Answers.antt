use mathlib.Core.Path.{ap, ◌∙◌}
use Rattle.editions.specs.Rates.{sample_rate_of}
use Rattle.record.specs.Stretch.{record_rate}
use Rattle.record.proofs.rate_of.Goals as goal

pub returns : goal.returns
unfolding record_rate
returns c =
    c.sample_rate_of.ensures ∙ ap (sample_rate_of c.args.edition) c.sample_rate_in.ensures
