-- Export after import gives the blocks back: import accepts nothing that export would not write. FORMAT, "Blocks". Assumes nothing.
use Prim.Native.Nat.{ℕ, ◌*◌, ◌≤◌, ◌<◌}
use mathlib.Core.Path.{◌≡◌, ap, sym, ◌∙◌}
use mathlib.Core.List.{List, [], ◌∷◌, ◌++◌}
use lib.Dec.{ltb}
use lib.ListN.{length, get_or, drop}
use borrow.Author.Tests.{le-ltb, ltb-false}
use Rattle.answers.specs.Answer.{accepted}
use Rattle.answers.specs.Refusal.{◌when◌, first, ◌then◌}
use Rattle.answers.proofs.Refusals.{then-zero, none-applies}
use Rattle.record.specs.Record.{record_refusal}
use Rattle.block_check.specs.Check.{block_bytes}
use Rattle.block_layout.specs.Layout.{block_count, exported_of}
use Rattle.block_layout.specs.Carried.{carried_of}
use Rattle.block_layout.specs.Refusals.{blocks_refusal, export_refusal, import_refusal}
use Rattle.block_layout.specs.Given.{length_answer, buffer_after}
use Rattle.block_layout.proofs.Given.{gives}
use Rattle.block_layout.proofs.Order.{all_pass, all_right}
use Rattle.block_layout.proofs.Carrying.{blocks-same, carried-bytes}
use Rattle.block_layout.proofs.Exported.{length-blocks}

module _ (n : ℕ) (s : List ℕ) (room : ℕ) (bytes : (k : ℕ) → get_or s k 0 < 256) (fine : import_refusal n s room ≡ 0) where
  -- neither the blocks nor the record that they carry nor the room is refused
  none : (blocks_refusal n s ≡ 0) × (record_refusal n (carried_of s) ≡ 0) × (first (21 when ltb room (length (carried_of s)) ∷ []) ≡ 0)
  unfolding import_refusal
  none =
      let u = then-zero (blocks_refusal n s) _ fine in
      let v = then-zero (record_refusal n (carried_of s)) _ u.1 in
      (u.0, v.0, v.1)

  pub record-accepted : record_refusal n (carried_of s) ≡ 0
  record-accepted = none.1

  pub record-fits : length (carried_of s) ≤ room
  record-fits =
      ltb-false room (length (carried_of s)) (none-applies (21 when ltb room (length (carried_of s)) ∷ []) 0 tt none.2)

  pub carried-small : (k : ℕ) → get_or (carried_of s) k 0 < 256
  carried-small = carried-bytes s bytes (all_pass n s none.0) (all_right n s none.0)

  -- what an accepted import's record is exported to are the blocks
  pub blocks-back : exported_of (carried_of s) ≡ s
  blocks-back = blocks-same s bytes (all_pass n s none.0) (all_right n s none.0)

  -- export accepts it, where there is room for the blocks
  pub export-accepts : (space : ℕ) → length s ≤ space → export_refusal n (carried_of s) space ≡ 0
  unfolding export_refusal
  export-accepts space fits =
      let size : block_bytes * block_count (length (carried_of s)) ≡ length s =
      sym (length-blocks (carried_of s) (block_count (length (carried_of s)))) ∙ ap length blocks-back in
      λ t. record-accepted t then first (21 when (ap (ltb space) size ∙ le-ltb space (length s) fits) t ∷ [])

  -- so the call answers the blocks' length, and they stand at the front of the buffer
  pub export-after-import : (out : List ℕ) → length s ≤ length out
      → (length_answer (export_refusal n (carried_of s) (length out)) (exported_of (carried_of s)) ≡ accepted (length s))
      × (buffer_after (export_refusal n (carried_of s) (length out)) (exported_of (carried_of s)) out ≡ s ++ drop (length s) out)
  export-after-import out fits =
      gives (export_refusal n (carried_of s) (length out)) (exported_of (carried_of s)) out s blocks-back (export-accepts (length out) fits)
