-- F, C and R of an opening: the first second and the number of seconds of its window, and its highest record number.
use Prim.Native.Nat.{ℕ}
use Rattle.index_model.specs.declared.Opening.{Opening}

module _ (o : Opening) where
  abbrev pub F : ℕ
  F = o.first_second

  abbrev pub C : ℕ
  C = o.second_count

  abbrev pub R : ℕ
  R = o.highest_number
