use mathlib.Core.Path.{◌∙◌}
use lib.ListN.{length}
use Rattle.header.proofs.Sound.{digits-common}
use Rattle.record.proofs.judged.Goals as goal

pub returns : goal.returns
returns c =
    let a = c.args in
    λ i.
    record {
      bytes = length a.bytes.now;
      length_words = c.read_field.ensures i;
      conversion = c.read_field-2.ensures i;
      compression = c.read_field-3.ensures i;
      sample_rate = c.sample_rate_in.ensures i;
      tape_number = c.read_field-4.ensures i;
      record_number = c.read_field-5.ensures i;
      year = c.read_field-6.ensures i;
      day = c.read_field-7.ensures i;
      time_tag = c.read_field-8.ensures i;
      readback_tag = c.read_field-9.ensures i;
      decimals = (c.all_digits_good-decimals.ensures ∙ digits-common a.edition a.bytes.now) i;
      clock_origin = c.read_field-10.ensures i;
      sync = c.sync_word_in.ensures i;
    }
