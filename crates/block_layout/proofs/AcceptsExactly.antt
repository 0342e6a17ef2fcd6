-- Import accepts exactly what export writes: the blocks of an accepted record that the buffer can hold. FORMAT, "Blocks". Assumes
-- nothing.
use Prim.Native.Nat.{ℕ, ◌≤◌, ◌<◌}
use mathlib.Core.Path.{◌≡◌, refl, ap, sym, ◌∙◌}
use mathlib.Core.List.{List}
use lib.ListN.{length, get_or}
use Rattle.lists.proofs.Truth.{◌exactly-when◌}
use Rattle.record.specs.Record.{record_refusal}
use Rattle.block_layout.specs.Layout.{exported_of}
use Rattle.block_layout.specs.Carried.{carried_of}
use Rattle.block_layout.specs.Refusals.{import_refusal}
use Rattle.block_layout.proofs.ImportAfterExport.{import-accepts}
use Rattle.block_layout.proofs.ExportAfterImport.{record-accepted, record-fits, carried-small, blocks-back}

-- what the blocks s are the export of, and carry
pub record ExportOf (n : ℕ) (s : List ℕ) (room : ℕ) : Type 0 where
  pub source : List ℕ
  pub bytes : (k : ℕ) → get_or source k 0 < 256
  pub accepted : record_refusal n source ≡ 0
  pub fits : length source ≤ room
  pub exported : s ≡ exported_of source
  pub carried : carried_of s ≡ source

pub import-exactly : (n : ℕ) (s : List ℕ) (room : ℕ) → ((k : ℕ) → get_or s k 0 < 256)
    → (import_refusal n s room ≡ 0) exactly-when ExportOf n s room
import-exactly n s room bytes = (
  λ e.
      record {
        source = carried_of s;
        bytes = carried-small n s room bytes e;
        accepted = record-accepted n s room bytes e;
        fits = record-fits n s room bytes e;
        exported = sym (blocks-back n s room bytes e);
        carried = refl;
      },
  λ x. ap (λ (b : List ℕ). import_refusal n b room) x.exported ∙ import-accepts n x.source x.bytes x.accepted room x.fits,
)
