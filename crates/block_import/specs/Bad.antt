-- The first whole block whose check is bad, or none where each has its check. FORMAT, "Blocks".
use Rattle.std.specs.Prelude.{ℕ, cond, Option, Some, None, List}
use Rattle.block_layout.specs.Refusals.{checks_pass, first_bad}

abbrev pub bad_block : List ℕ → Option ℕ
bad_block s = cond (checks_pass s) None (Some (first_bad s))
