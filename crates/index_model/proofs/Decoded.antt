-- The cells of a second, decoded, are its totals and verdict worked out from nothing over its records. Assumes nothing.
use Prim.Native.Nat.{ℕ, zero, suc, ◌*◌, ◌<◌, ◌≤◌}
use mathlib.Core.Path.{◌≡◌, refl, ap, sym, ◌∙◌}
use mathlib.Core.Bool.{Bool, true, false, cond, ◌&&◌}
use mathlib.Core.List.{List, [], ◌∷◌, ◌++◌, flat_map}
use mathlib.Core.Option.{Option, none, some}
use native.Mathlib.Omega.{arith}
use lib.Dec.{eqb, leb}
use lib.IntN.{ℤ, pos, sub_ℕ, ◌-ℤ◌}
use lib.ListN.{get_or, length, length-append}
use Rattle.lists.specs.Fill.{tab}
use Rattle.lists.proofs.Fill.{get_or-tab}
use Rattle.answers.proofs.Refusals.{cond-none, cond-some}
use Rattle.totals.specs.Total.{sum_of, added_of, squares_of, kept_of, clipped_of, no_total, total_of}
use Rattle.totals.proofs.Samples.{Bytes, bytes-append}
use Rattle.index_model.specs.declared.Opening.{Opening}
use Rattle.index_model.specs.Records.{Record, second_of, has_origin, has_error, channel_samples}
use Rattle.index_model.specs.Cells.{width, channel_cell, least_at, sum_at, squares_at, clipped_at, greatest_at, sample_offset}
use Rattle.index_model.specs.Calls.{full_count, least_from, greatest_from, channel_shown, total_from, kept_from, second_shown}
use Rattle.index_model.specs.Ledger.{Ledger, record_in, records_of, count_of, totals_over, ledger_second}
use Rattle.index_model.proofs.Totals.{cell_total}
use Rattle.index_model.proofs.Differences.{minus-sub}
use Rattle.index_model.proofs.Codes.{
  sum_code,
  top_code,
  least_code,
  greatest_code,
  sum-decoded,
  least-coding,
  greatest-coding,
  least-from,
  greatest-from,
  kept_read,
}
use Rattle.index_model.proofs.Sound.{Sound, SoundLedger, per_record, samples-length, samples-signed, count-is, count-some}
use Rattle.index_model.proofs.Measures.{
  Measures,
  measured,
  measures-records,
  measures-origins,
  measures-errors,
  measures-sum,
  measures-squares,
  measures-clipped,
  measures-least,
  measures-greatest,
}

-- every record of a list is sound
abbrev pub AllSound : Opening → List Record → Type 0
AllSound o [] = Unit
AllSound o (b ∷ r) = Sound o b × AllSound o r

-- the records of a second are
module _ {o : Opening} (L : Ledger) (sound : SoundLedger o L) (s : ℕ) where
  entry-sound : (r : List Record) → AllSound o r → (held : Option Record) → ((b : Record) → held ≡ some b → Sound o b)
      → AllSound o (r ++ record_in s held)
  entry-sound [] h none k = tt
  entry-sound [] h (some b) k = by-test (eqb (second_of b) s)
    where
      by-test : (t : Bool) → AllSound o (cond t (b ∷ []) [])
      by-test true = (k b refl, tt)
      by-test false = tt
  entry-sound (b ∷ r) h held k = (h.0, entry-sound r h.1 held k)

  pub second-sound : (n : ℕ) → AllSound o (records_of L s n)
  unfolding records_of
  second-sound zero = tt
  second-sound (suc n) = entry-sound (records_of L s n) (second-sound n) (L (suc n)) (sound (suc n))

-- ## a channel

joined-signed : (c : ℕ) (r : List Record) → Bytes (flat_map (channel_samples c) r)
unfolding flat_map
joined-signed c [] = tt
joined-signed c (b ∷ r) =
    bytes-append (channel_samples c b) (flat_map (channel_samples c) r) (samples-signed b c) (joined-signed c r)

module _ (o : Opening) (c : ℕ) where
  pub joined_length : (r : List Record) → AllSound o r → length (flat_map (channel_samples c) r) ≡ length r * per_record o
  unfolding flat_map
  joined_length [] h = omega arith
  joined_length (b ∷ r) h =
      omega (
        arith,
        length-append (channel_samples c b) (flat_map (channel_samples c) r),
        samples-length b c,
        count-is
            h.0,
        joined_length r h.1,
      )

  joined-some : (b : Record) (r : List Record) → Sound o b → 0 < length (flat_map (channel_samples c) (b ∷ r))
  unfolding flat_map
  joined-some b r h =
      omega (
        arith,
        length-append (channel_samples c b) (flat_map (channel_samples c) r),
        samples-length b c,
        count-some b
            h.accepted,
      )

  -- what the cells of a second hold for the channel, and the total that they say
  pub record Holds (r : List Record) (second : List ℕ) : Type 0 where
    pub records : get_or second 0 0 ≡ length r
    pub least : get_or second (channel_cell c least_at) 0 ≡ top_code least_code (flat_map (channel_samples c) r)
    pub sum : get_or second (channel_cell c sum_at) 0 ≡ sum_code (flat_map (channel_samples c) r)
    pub squares : get_or second (channel_cell c squares_at) 0 ≡ squares_of (flat_map (channel_samples c) r)
    pub clipped : get_or second (channel_cell c clipped_at) 0 ≡ clipped_of (flat_map (channel_samples c) r)
    pub greatest : get_or second (channel_cell c greatest_at) 0 ≡ top_code greatest_code (flat_map (channel_samples c) r)

  total-decoded : (r : List Record) → AllSound o r → (second : List ℕ) → Holds r second
      → total_from (get_or second 0 0 * per_record o) second c ≡ total_of (flat_map (channel_samples c) r)
  unfolding total_from total_of sum_of added_of kept_of flat_map
  total-decoded [] h second e =
      cond-none (get_or second 0 0) (channel_shown (get_or second 0 0 * per_record o) second c) no_total e.records
  total-decoded (b ∷ r) h second e =
      cond-some (get_or second 0 0) (channel_shown (get_or second 0 0 * per_record o) second c) no_total
      (λ z. omega (arith, e.records, z))
      ∙ (λ t. record {
        sum = sums t;
        squares = e.squares t;
        least = kept_read least-coding least_from least-from l signed some (get_or second (channel_cell c least_at) 0) e.least t;
        greatest =
            kept_read greatest-coding greatest_from greatest-from l signed some (get_or second (channel_cell c greatest_at) 0)
            e.greatest t;
        clipped = e.clipped t;
      })
    where
      l : List ℤ
      l = flat_map (channel_samples c) (b ∷ r)

      signed : Bytes l
      signed = joined-signed c (b ∷ r)

      some : 0 < length l
      some = joined-some b r h.0

      size : get_or second 0 0 * per_record o ≡ length l
      size = ap (λ (n : ℕ). n * per_record o) e.records ∙ sym (joined_length (b ∷ r) h)

      sums : pos (get_or second (channel_cell c sum_at) 0) -ℤ pos (sample_offset * (get_or second 0 0 * per_record o)) ≡ sum_of l
      sums =
          minus-sub (get_or second (channel_cell c sum_at) 0) (sample_offset * (get_or second 0 0 * per_record o))
          ∙ (λ t. sub_ℕ (e.sum t) (sample_offset * size t))
          ∙ sym (sum-decoded l signed)

-- ## a second

module _ (o : Opening) (L : Ledger) (sound : SoundLedger o L) (s : ℕ) where
  abbrev R : ℕ
  R = o.highest_number

  abbrev held : List Record
  held = records_of L s R

  -- its cells over the ledger
  abbrev pub second_cells : List ℕ
  second_cells = tab (λ (j : ℕ). cell_total L s j R) 0 width

  at : {m : List Record → ℕ} (j : ℕ) → j < width → Measures o j m → get_or second_cells j 0 ≡ m held
  at j h of = get_or-tab (λ (j : ℕ). cell_total L s j R) width j 0 h ∙ measured of L sound s R

  channel-holds : (c : ℕ) → 1 ≤ c → c ≤ 4 → Holds o c held second_cells
  channel-holds c p q =
      record {
        records = at 0 (omega arith) (measures-records o);
        least = at (channel_cell c least_at) (omega arith) (measures-least o c p q);
        sum = at (channel_cell c sum_at) (omega arith) (measures-sum o c p q);
        squares = at (channel_cell c squares_at) (omega arith) (measures-squares o c p q);
        clipped = at (channel_cell c clipped_at) (omega arith) (measures-clipped o c p q);
        greatest = at (channel_cell c greatest_at) (omega arith) (measures-greatest o c p q);
      }

  channel-decoded : (c : ℕ) → 1 ≤ c → c ≤ 4 → total_from (get_or second_cells 0 0 * per_record o) second_cells c
      ≡ total_of (flat_map (channel_samples c) held)
  channel-decoded c p q = total-decoded o c held (second-sound L sound s R) second_cells (channel-holds c p q)

  pub second-decoded : second_shown o second_cells ≡ ledger_second o L s
  unfolding second_shown kept_from ledger_second totals_over
  second-decoded =
      λ t. record {
        records = records t;
        origins = origins t;
        errors = errors t;
        channels =
            channel-decoded 1 (omega arith) (omega arith) t ∷ channel-decoded 2 (omega arith) (omega arith) t
            ∷ channel-decoded 3 (omega arith) (omega arith) t ∷ channel-decoded 4 (omega arith) (omega arith) t ∷ [];
        kept = eqb (records t) (full_count o) && leb 1 (origins t) && eqb (errors t) 0;
      }
    where
      records : get_or second_cells 0 0 ≡ length held
      records = at 0 (omega arith) (measures-records o)

      origins : get_or second_cells 1 0 ≡ count_of has_origin held
      origins = at 1 (omega arith) (measures-origins o)

      errors : get_or second_cells 2 0 ≡ count_of has_error held
      errors = at 2 (omega arith) (measures-errors o)
