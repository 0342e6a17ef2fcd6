-- Import after export gives the record back: it accepts the blocks of every accepted record, of either edition. FORMAT, "Blocks".
-- Assumes nothing.
use Prim.Native.Nat.{ℕ, ◌≤◌, ◌<◌}
use mathlib.Core.Path.{◌≡◌, ap, ◌∙◌}
use mathlib.Core.Bool.{false}
use mathlib.Core.List.{List, ◌++◌}
use native.Mathlib.Omega.{arith}
use lib.Dec.{ltb}
use lib.ListN.{length, get_or, drop}
use borrow.Author.Tests.{le-ltb}
use Rattle.lists.proofs.Truth.{holds}
use Rattle.answers.specs.Answer.{accepted}
use Rattle.header.proofs.Sound.{of-editions}
use Rattle.record.specs.Record.{record_refusal, longest_record}
use Rattle.record.proofs.Accepted.{record-facts, length-bounds}
use Rattle.block_layout.specs.Layout.{exported_of}
use Rattle.block_layout.specs.Carried.{carried, carried_of}
use Rattle.block_layout.specs.Refusals.{checks_pass, blocks_right, import_refusal}
use Rattle.block_layout.specs.Given.{length_answer, buffer_after}
use Rattle.block_layout.proofs.Given.{gives}
use Rattle.block_layout.proofs.Order.{blocks-none, import-room}
use Rattle.block_layout.proofs.Exported.{carried-all}
use Rattle.block_layout.proofs.Judged.{whole-blocks, checks-pass, exported-right}

module _ (n : ℕ) (r : List ℕ) (bytes : (k : ℕ) → get_or r k 0 < 256) (fine : record_refusal n r ≡ 0) where
  least : 4 ≤ length r
  least =
      omega (arith, (length-bounds n r fine).0, of-editions (λ e. 4 ≤ e.layout.header-bytes) (omega arith) (omega arith) n)

  most : length r ≤ longest_record
  most = (length-bounds n r fine).1

  -- what the blocks of an accepted record carry is the record
  pub given_back : carried_of (exported_of r) ≡ r
  given_back = ap (carried (exported_of r)) (whole-blocks r bytes least most) ∙ carried-all r

  -- import accepts them, where there is room for the record
  pub import-accepts : (room : ℕ) → length r ≤ room → import_refusal n (exported_of r) room ≡ 0
  import-accepts room fits =
      import-room n (exported_of r) room
      (blocks-none n (exported_of r) (record-facts n r fine).known
      (holds (checks_pass (exported_of r)) (checks-pass r bytes least most))
      (holds (blocks_right (exported_of r)) (exported-right r bytes least most)))
      false (ap (record_refusal n) given_back ∙ fine)
      (ap (λ (l : List ℕ). ltb room (length l)) given_back ∙ le-ltb room (length r) fits)

  -- so the call answers the record's length, and its bytes stand at the front of the buffer
  pub import-after-export : (out : List ℕ) → length r ≤ length out
      → (length_answer (import_refusal n (exported_of r) (length out)) (carried_of (exported_of r)) ≡ accepted (length r))
      × (buffer_after (import_refusal n (exported_of r) (length out)) (carried_of (exported_of r)) out ≡ r ++ drop (length r) out)
  import-after-export out fits =
      gives (import_refusal n (exported_of r) (length out)) (carried_of (exported_of r)) out r given_back (import-accepts (length out) fits)
