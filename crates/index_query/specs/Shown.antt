-- The definition's value for the code's.
use Rattle.index_model.specs.Second.{SecondTotals}
use Rattle.index_query.specs.declared.Second.{Second}

abbrev pub shown_second : Second → SecondTotals
shown_second s =
    record { records = s.records; origins = s.origins; errors = s.errors; channels = s.channels; kept = s.kept }
