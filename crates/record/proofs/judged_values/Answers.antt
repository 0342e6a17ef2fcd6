use mathlib.Core.Path.{◌∙◌}
use lib.ListN.{get_or}
use borrow.Author.Rules.{rules}
use Rattle.header.proofs.Sound.{sample-rate-placed, sync-placed, decimals-common}
use Rattle.record.proofs.judged_values.Goals as goal

pub returns : goal.returns
returns c =
    let a = c.args in
    let n = a.edition in
    let v = a.values in
    λ i.
    record {
      bytes = a.bytes;
      length_words = get_or v 7 0;
      conversion = get_or v 3 0;
      compression = get_or v 4 0;
      sample_rate = sample-rate-placed n v i;
      tape_number = get_or v 5 0;
      record_number = get_or v 6 0;
      year = get_or v 12 0;
      day = get_or v 13 0;
      time_tag = get_or v 14 0;
      readback_tag = get_or v 27 0;
      decimals = (c.decimals_fit-decimals.ensures ∙ decimals-common n v (search (rules, c.well_formed))) i;
      clock_origin = get_or v 0 0;
      sync = sync-placed n v i;
    }
