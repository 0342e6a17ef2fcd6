-- What holds of every edition, each fact by a look at the descriptions: the one test of a table of rows, the number of values,
-- and where the values that are judged stand. Assumes nothing.
use Prim.Native.Nat.{ℕ, ◌*◌}
use mathlib.Core.Path.{◌≡◌, refl, ap, sym, ◌∙◌}
use mathlib.Core.Bool.{Bool, true, false, cond, ◌&&◌}
use mathlib.Core.List.{List, [], ◌∷◌, ◌++◌}
use lib.Dec.{T, eqb}
use lib.ListN.{length, get_or}
use borrow.Author.Tests.{eq-eqb, ne_eqb}
use Rattle.fields.specs.declared.Field.{Field}
use Rattle.fields.specs.Field.{value_of, digits_good, decimal_fits}
use Rattle.fields.specs.Table.{sound, read_all, all_digits_good, all_fit, value_in}
use Rattle.fields.proofs.Tables.{length-read}
use Rattle.header_parts.specs.Parts.{cells}
use Rattle.header_parts.proofs.Laws.{whole}
use Rattle.header.specs.Format.{table, common, field_count}
use Rattle.header.specs.Edition.{Edition, edition1985, edition1992, edition_of, fields_of, sample_rate, sync_word, header_bytes}

-- ## by the editions

-- what holds of each description holds of that of any number
pub of-editions : (P : Edition → Type 0) → P edition1985 → P edition1992 → (n : ℕ) → P (edition_of n)
unfolding edition_of
of-editions P p q n = by-test (eqb n 1992)
  where
    by-test : (t : Bool) → P (cond t edition1992 edition1985)
    by-test true = q
    by-test false = p

pub is-1992 : (n : ℕ) → n ≡ 1992 → edition_of n ≡ edition1992
unfolding edition_of
is-1992 n e = ap (λ (t : Bool). cond t edition1992 edition1985) (eq-eqb n 1992 e)

pub is-1985 : (n : ℕ) → (n ≡ 1992 → ⊥) → edition_of n ≡ edition1985
unfolding edition_of
is-1985 n e = ap (λ (t : Bool). cond t edition1992 edition1985) (ne_eqb n 1992 e)

-- ## the tables

-- every field within the bits of the header, no two with a bit in common
pub fields-sound : (n : ℕ) → T (sound (8 * header_bytes n) (fields_of n))
fields-sound = of-editions (λ e. T (sound (8 * e.layout.header-bytes) (table e.own))) tt tt

pub own-counted : (n : ℕ) → length (edition_of n).own ≡ 8
own-counted = of-editions (λ e. length e.own ≡ 8) refl refl

pub fields-counted : (n : ℕ) → length (fields_of n) ≡ field_count
fields-counted = of-editions (λ e. length (table e.own) ≡ field_count) refl refl

-- what is read of the own rows is eight values
pub own-whole : (n : ℕ) (b : List ℕ) → cells 0 8 (read_all (edition_of n).own b) ≡ read_all (edition_of n).own b
own-whole n b = whole 0 8 (read_all (edition_of n).own b) (length-read (edition_of n).own b ∙ own-counted n)

-- no own row is decimal: every digit to be judged stands in the common ones
own-digits : (n : ℕ) (b : List ℕ) → all_digits_good (edition_of n).own b ≡ true
unfolding digits_good
own-digits n b = of-editions (λ e. all_digits_good e.own b ≡ true) refl refl n

pub digits-common : (n : ℕ) (b : List ℕ) → all_digits_good common b ≡ all_digits_good (fields_of n) b
digits-common n b = before common
  where
    before : (fs : List Field) → all_digits_good fs b ≡ all_digits_good (fs ++ (edition_of n).own) b
    before [] = sym (own-digits n b)
    before (f ∷ fs) = ap (λ (t : Bool). digits_good f b && t) (before fs)

-- of values in the table's order, the sample rate and the sync word stand in the same places in each edition
pub sample-rate-placed : (n : ℕ) (v : List ℕ) → get_or v 41 0 ≡ value_in (fields_of n) v (sample_rate n)
sample-rate-placed n v = of-editions (λ e. get_or v 41 0 ≡ value_in (table e.own) v e.sample-rate) refl refl n

pub sync-placed : (n : ℕ) (v : List ℕ) → get_or v 42 0 ≡ value_in (fields_of n) v (sync_word n)
sync-placed n v = of-editions (λ e. get_or v 42 0 ≡ value_in (table e.own) v e.sync-word) refl refl n

-- and of those that are read, they are what the two fields hold
pub sample-rate-read : (n : ℕ) (b : List ℕ) → value_in (fields_of n) (read_all (fields_of n) b) (sample_rate n) ≡ value_of (sample_rate n) b
sample-rate-read n b =
    of-editions (λ e. value_in (table e.own) (read_all (table e.own) b) e.sample-rate ≡ value_of e.sample-rate b) refl refl n

pub sync-read : (n : ℕ) (b : List ℕ) → value_in (fields_of n) (read_all (fields_of n) b) (sync_word n) ≡ value_of (sync_word n) b
sync-read n b =
    of-editions (λ e. value_in (table e.own) (read_all (table e.own) b) e.sync-word ≡ value_of e.sync-word b) refl refl n

-- no own row is decimal: every decimal value stands in the common ones
pub decimals-common : (n : ℕ) (v : List ℕ) → length v ≡ field_count
    → all_fit decimal_fits common (cells 0 40 v) ≡ all_fit decimal_fits (fields_of n) v
decimals-common n v e =
    of-editions (λ d. all_fit decimal_fits common (cells 0 40 v) ≡ all_fit decimal_fits (table d.own) (cells 0 field_count v))
    refl refl n
    ∙ ap (all_fit decimal_fits (fields_of n)) (whole 0 field_count v e)
