-- What is known of a record that the index holds, of its samples and of its row. Assumes nothing.
use Prim.Native.Nat.{ℕ, zero, suc, ◌+◌, ◌-◌, ◌/◌, ◌%◌, ◌<◌, ◌≤◌}
use mathlib.Core.Path.{◌≡◌, ap, ◌∙◌, subst}
use mathlib.Core.Bool.{Bool, true, false}
use mathlib.Core.List.{List}
use mathlib.Core.Option.{some}
use mathlib.Core.Logic.{⊎_elim}
use native.Mathlib.Omega.{arith}
use lib.ListN.{get_or, length, length-take, length-drop, get_or-eq_default}
use Rattle.lists.proofs.Fill.{length-tab}
use Rattle.lists.proofs.Order.{le-or-lt}
use Rattle.channels.specs.Sample.{sample_of, samples_of}
use Rattle.sample_rates.specs.Rates.{samples_per_record}
use Rattle.editions.specs.Rates.{sample_rate_of}
use Rattle.record.proofs.Count.{count_small}
use Rattle.record.proofs.Accepted.{record-facts, stretch-inside}
use Rattle.totals.specs.Total.{total_of}
use Rattle.totals.proofs.Samples.{Bytes, samples-bytes}
use Rattle.totals.proofs.Sums.{squares-bound, clipped-bound}
use Rattle.index_model.specs.declared.Opening.{Opening}
use Rattle.index_model.specs.Records.{second_in, rate_in, count_in, refusal_of, stretch_in, Record, second_of, has_origin, has_error, channel_samples}
use Rattle.record.specs.Stretch.{record_rate, stretch_of}
use Rattle.index_model.specs.Cells.{width, head_width, channel_width, channel_cell, samples_in, channel_cells, flag, row_of}
use Rattle.index_model.specs.Opening.{held_rate, in_window}
use Rattle.index_model.specs.Ledger.{Ledger}
use Rattle.index_model.proofs.Rows.{row-length, row-records, row-origin, row-error, row-second, row-channel}
use Rattle.index_model.proofs.Totals.{row_limit, SmallRows}
use Rattle.index_model.proofs.Codes.{sum-code-small, top-most, least-coding, greatest-coding, codes, cells-codes}

-- a record that the index may hold: accepted, of the opening's edition and rate, and of a second of the window
pub record Sound (o : Opening) (b : Record) : Type 0 where
  pub accepted : refusal_of b ≡ 0
  pub edition : b.edition ≡ o.edition
  pub rate : rate_in b ≡ o.sample_rate_hz
  pub window : in_window o (second_of b) ≡ true

abbrev pub SoundLedger : Opening → Ledger → Type 0
SoundLedger o L = (n : ℕ) (b : Record) → L n ≡ some b → Sound o b

-- ## its samples

-- samples a channel of every record
abbrev pub per_record : Opening → ℕ
per_record o = samples_per_record (held_rate o)

module _ (b : Record) (c : ℕ) where
  pub samples-length : length (channel_samples c b) ≡ count_in b
  unfolding channel_samples
  samples-length = length-tab (sample_of (stretch_in b) c) 0 (count_in b)

  pub samples-signed : Bytes (channel_samples c b)
  unfolding channel_samples
  samples-signed = samples-bytes (stretch_in b) c (count_in b)

pub count-is : {o : Opening} {b : Record} → Sound o b → count_in b ≡ per_record o
unfolding record_rate
count-is sound = λ t. samples_per_record (sample_rate_of (sound.edition t) (sound.rate t))

-- ## the row of an accepted record

flag_small : (t : Bool) → flag t ≤ 1
flag_small true = omega arith
flag_small false = omega arith

module _ (b : Record) (accepted : refusal_of b ≡ 0) where
  pub count-some : 0 < count_in b
  unfolding record_rate
  count-some = (record-facts b.edition b.bytes accepted).line.some

  -- its bytes hold them all
  held_all : samples_in (stretch_in b) ≡ count_in b
  unfolding stretch_of record_rate
  held_all = simp (length-take, length-drop) (omega (arith, stretch-inside b.edition b.bytes accepted))

  -- the cells of a channel (1 to 4)
  pub row-codes : (c i : ℕ) → 1 ≤ c → c ≤ 4 → i < channel_width
      → get_or (row_of b) (channel_cell c i) 0 ≡ get_or (codes (channel_samples c b)) i 0
  unfolding channel_samples
  row-codes c i p q r =
      row-channel b c i p q r
      ∙ (λ t. get_or (channel_cells (held_all t) (total_of (samples_of (stretch_in b) c (held_all t)))) i 0)
      ∙ ap (λ (l : List ℕ). get_or l i 0)
      (cells-codes (channel_samples c b) (samples-signed b c) (count_in b) (samples-length b c) count-some)

  codes-small : (c i : ℕ) → i < channel_width → get_or (codes (channel_samples c b)) i 0 ≤ row_limit
  codes-small c zero r = omega (arith, top-most least-coding (channel_samples c b) (samples-signed b c))
  codes-small c (suc zero) r =
      omega (arith, sum-code-small (channel_samples c b) (samples-signed b c), samples-length b c, count_small b.edition b.bytes)
  codes-small c (suc (suc zero)) r =
      omega (arith, squares-bound (channel_samples c b) (samples-signed b c), samples-length b c, count_small b.edition b.bytes)
  codes-small c (suc (suc (suc zero))) r =
      omega (arith, clipped-bound (channel_samples c b) (samples-signed b c), samples-length b c, count_small b.edition b.bytes)
  codes-small c (suc (suc (suc (suc zero)))) r = omega (arith, top-most greatest-coding (channel_samples c b) (samples-signed b c))
  codes-small c (suc (suc (suc (suc (suc i))))) r = absurd (let z : ⊥ = omega arith in z)

  first_small : (j : ℕ) → j < head_width → get_or (row_of b) j 0 ≤ row_limit
  unfolding second_in
  first_small zero h = omega (arith, row-records b)
  first_small (suc zero) h = omega (arith, row-origin b, flag_small (has_origin b))
  first_small (suc (suc zero)) h = omega (arith, row-error b, flag_small (has_error b))
  first_small (suc (suc (suc zero))) h = omega (arith, row-second b, (record-facts b.edition b.bytes accepted).tag)
  first_small (suc (suc (suc (suc j)))) h = absurd (let z : ⊥ = omega arith in z)

  -- every cell is small
  pub row_small : (j : ℕ) → get_or (row_of b) j 0 ≤ row_limit
  row_small j =
      ⊎_elim (λ h. omega (arith, get_or-eq_default (row_of b) 0 {n = j} (omega (arith, row-length b))))
      (λ h. ⊎_elim (λ k. later k h) (λ k. first_small j k) (le-or-lt head_width j)) (le-or-lt width j)
    where
      channel : ℕ
      channel = (j - head_width) / channel_width + 1

      place : ℕ
      place = (j - head_width) % channel_width

      later : head_width ≤ j → j < width → get_or (row_of b) j 0 ≤ row_limit
      later k h =
          subst (λ (a : ℕ). get_or (row_of b) a 0 ≤ row_limit) (let z : channel_cell channel place ≡ j = omega arith in z)
          (omega (
            arith,
            row-codes channel place (omega arith) (omega arith) (omega arith),
            codes-small channel place (omega arith),
          ))

pub small-rows : {o : Opening} {L : Ledger} → SoundLedger o L → SmallRows L
small-rows sound n b e j = row_small b (sound n b e).accepted j
