-- The number that each block of a record names is the record number of its header, the value that 7 judges and that a reader of
-- the header gives. FORMAT, "Blocks". Assumes nothing.
use Prim.Native.Nat.{ℕ, ◌+◌, ◌*◌, ◌<◌}
use mathlib.Core.Path.{◌≡◌, ap, sym, ◌∙◌}
use mathlib.Core.List.{List}
use native.Mathlib.Omega.{arith}
use lib.ListN.{length, get_or}
use Rattle.bits.specs.Bits.{bit_at, get_bits}
use Rattle.bits.proofs.Bits.{byte-num, num-add}
use Rattle.fields.specs.Field.{value_of}
use Rattle.header.specs.Rows.{record_number}
use Rattle.block_layout.specs.Layout.{number_of, payload_length, payload_byte, block_count, exported_of}
use Rattle.block_layout.specs.Carried.{block_at, number_in}
use Rattle.block_layout.proofs.Block.{number-laid}
use Rattle.block_layout.proofs.Exported.{block_in}

module _ (r : List ℕ) (bytes : (k : ℕ) → get_or r k 0 < 256) where
  header-number : number_of r ≡ value_of record_number r
  unfolding value_of get_bits
  header-number =
      (λ t. sym (byte-num r 2 (bytes 2)) t * 256 + sym (byte-num r 3 (bytes 3)) t) ∙ sym (num-add (bit_at r) 16 8 8)

  pub number-named : (i : ℕ) → i < block_count (length r) → number_in (block_at (exported_of r) i) ≡ value_of record_number r
  number-named i h =
      ap number_in (block_in r (block_count (length r)) i h)
      ∙ number-laid (number_of r) i (payload_length (length r) i) (payload_byte r i) (omega (arith, bytes 2, bytes 3))
      ∙ header-number
