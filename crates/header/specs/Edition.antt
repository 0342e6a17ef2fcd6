-- The editions, each a description: its own rows, where its records have the sample rate, the sync word and the samples, its
-- rates, and what else a reader has to know. FORMAT, "Editions". A further edition is a further description.
use Rattle.std.specs.Prelude.{ℕ, Bool, cond, not, ◌&&◌, List, eqb}
use Rattle.fields.specs.declared.Field.{Field}
use Rattle.sample_rates.specs.declared.SampleRate.{SampleRate}
use Rattle.sample_rates.specs.Rates.{rates1985, rates1992, Layout, layout1985, layout1992}
use Rattle.header.specs.Rows as row
use Rattle.header.specs.Format.{own1985, own1992, table}

pub record Edition : Type 0 where
  pub own : List Field
  pub sample-rate : Field
  pub sync-word : Field
  pub layout : Layout
  pub other-resolution : ℕ  -- what the conversion bit holds where samples have not 8 bits
  pub rate-lines : List SampleRate
  pub fraction-bits : ℕ  -- of a phase count

abbrev pub edition1985 : Edition
edition1985 =
    record {
      own = own1985;
      sample-rate = row.sample_rate1985;
      sync-word = row.sync1985;
      layout = layout1985;
      other-resolution = 1;
      rate-lines = rates1985;
      fraction-bits = 8;
    }

abbrev pub edition1992 : Edition
edition1992 =
    record {
      own = own1992;
      sample-rate = row.sample_rate1992;
      sync-word = row.sync1992;
      layout = layout1992;
      other-resolution = 0;
      rate-lines = rates1992;
      fraction-bits = 20;
    }

-- ## the edition that a caller names by its number

-- 25: no edition has the number
abbrev pub is_unknown : ℕ → Bool
is_unknown n = not (eqb n 1985) && not (eqb n 1992)

-- the description of an edition; of an unknown one, which 25 refuses, it does not matter
unfoldable pub edition_of : ℕ → Edition
edition_of n = cond (eqb n 1992) edition1992 edition1985

-- what the descriptions say, by the number
abbrev pub fields_of : ℕ → List Field
fields_of n = table (edition_of n).own

abbrev pub sample_rate : ℕ → Field
sample_rate n = (edition_of n).sample-rate

abbrev pub sync_word : ℕ → Field
sync_word n = (edition_of n).sync-word

abbrev pub layout_of : ℕ → Layout
layout_of n = (edition_of n).layout

abbrev pub header_bytes : ℕ → ℕ
header_bytes n = (layout_of n).header-bytes

abbrev pub other_resolution : ℕ → ℕ
other_resolution n = (edition_of n).other-resolution

abbrev pub rates_of : ℕ → List SampleRate
rates_of n = (edition_of n).rate-lines

abbrev pub monitor_words_of : ℕ → ℕ
monitor_words_of n = (layout_of n).monitor-words

abbrev pub fraction_bits : ℕ → ℕ
fraction_bits n = (edition_of n).fraction-bits

-- 26: the edition has no monitor segments
abbrev pub no_segments : ℕ → Bool
no_segments n = eqb (monitor_words_of n) 0
