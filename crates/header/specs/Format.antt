-- The rows of a header as a table: those that every edition has first, then its own. FORMAT, "The record". Bits that no row names
-- are kept.
use Rattle.std.specs.Prelude.{ℕ, List, [], ◌∷◌, ◌++◌}
use Rattle.fields.specs.declared.Field.{Field}
use Rattle.header.specs.Rows as row

-- the number of a header's values, in every edition
abbrev pub field_count : ℕ
field_count = 48

-- the rows that every edition has, in the order of the words, eight a part
abbrev pub common1 : List Field
common1 =
    row.clock_origin ∷ row.session_start ∷ row.copy_error ∷ row.conversion ∷ row.compression ∷
    row.tape_number ∷ row.record_number ∷ row.length_words ∷ []

abbrev pub common2 : List Field
common2 =
    row.prime_fea ∷ row.secondary_fea ∷ row.spacecraft ∷ row.spc ∷ row.year ∷ row.day ∷ row.time_tag ∷
    row.predict0 ∷ []

abbrev pub common3 : List Field
common3 =
    row.predict1 ∷ row.predict2 ∷ row.predict3 ∷ row.predict4 ∷ row.predict5 ∷ row.predict6 ∷
    row.predict7 ∷ row.predict8 ∷ []

abbrev pub common4 : List Field
common4 =
    row.predict9 ∷ row.status ∷ row.readback ∷ row.readback_tag ∷ row.calculated ∷ row.update_tag ∷
    row.frequency_rate_digits ∷ row.frequency_rate_power ∷ []

abbrev pub common5 : List Field
common5 =
    row.frequency_rate_sign ∷ row.phase1 ∷ row.phase2 ∷ row.selector1 ∷ row.selector2 ∷
    row.selector3 ∷ row.selector4 ∷ row.counter_tag ∷ []

-- the rows of an edition alone; the sample rate and the sync word stand in the same places in each
abbrev pub own1985 : List Field
own1985 =
    row.filter ∷ row.sample_rate1985 ∷ row.sync1985 ∷ row.word39 ∷ row.register1 ∷ row.register2 ∷
    row.empty1985 ∷ row.empty1985 ∷ []

abbrev pub own1992 : List Field
own1992 =
    row.rf_configuration ∷ row.sample_rate1992 ∷ row.sync1992 ∷ row.rf_configuration_reported ∷
    row.time_offset_days ∷ row.time_offset_sign ∷ row.time_offset_seconds ∷ row.frequency_offset ∷ []

-- the rows of an edition: the common ones and its own
abbrev pub common : List Field
common = common1 ++ (common2 ++ (common3 ++ (common4 ++ common5)))

abbrev pub table : List Field → List Field
table own = common1 ++ (common2 ++ (common3 ++ (common4 ++ (common5 ++ own))))
