-- What is known of an accepted record. Assumes nothing.
use Prim.Native.Nat.{ℕ, ◌+◌, ◌*◌, ◌≤◌}
use mathlib.Core.Path.{◌≡◌}
use mathlib.Core.List.{List}
use mathlib.Core.Logic.{⊎_elim}
use native.Mathlib.Omega.{arith}
use lib.Dec.{T}
use lib.ListN.{length}
use Rattle.lists.proofs.Truth.{held}
use Rattle.fields.specs.Field.{value_of, decimal_fits, binary_fits}
use Rattle.fields.specs.Table.{read_all, all_digits_good, all_fit}
use Rattle.fields.proofs.Tables.{values-fit}
use Rattle.header.specs.Edition.{fields_of, layout_of, header_bytes, monitor_words_of}
use Rattle.header.proofs.Sound.{of-editions, fields-sound}
use Rattle.sample_rates.specs.Rates.{most_samples}
use Rattle.answers.proofs.Refusals.{first-most}
use Rattle.checks.specs.Checks.{checks, judged_of}
use Rattle.checks.proofs.Accepted.{Accepted, accepted-facts}
use Rattle.record.specs.Record.{record_refusal, longest_record}
use Rattle.record.specs.Stretch.{record_rate, sample_count}

-- no number above 25 is a record's own
pub refusal-most : (n : ℕ) (b : List ℕ) → record_refusal n b ≤ 25
unfolding record_refusal
refusal-most n b = first-most 25 (checks n (judged_of n (length b) (λ f. value_of f b) (all_digits_good (fields_of n) b))) tt

module _ (n : ℕ) (b : List ℕ) (e : record_refusal n b ≡ 0) where
  pub record-facts : Accepted n (judged_of n (length b) (λ f. value_of f b) (all_digits_good (fields_of n) b))
  unfolding record_refusal
  record-facts = accepted-facts n (judged_of n (length b) (λ f. value_of f b) (all_digits_good (fields_of n) b)) e

  -- the sample stretch and the monitor words after it lie within the record
  pub stretch-inside : header_bytes n + 4 * sample_count n b + 2 * monitor_words_of n ≤ length b
  unfolding record_rate
  stretch-inside =
      let f = record-facts in
      let l = f.line in
      ⊎_elim (λ p. omega (arith, p, f.words, l.last, l.longer)) (λ p. omega (arith, p, f.words, l.last, l.shorter))
      f.size

  -- the record has its header, and is no longer than the longest of 1985
  pub length-bounds : (header_bytes n ≤ length b) × (length b ≤ longest_record)
  length-bounds =
      let f = record-facts in
      let l = f.line in
      let room : header_bytes n + 2 * (monitor_words_of n + (layout_of n).offset-words) + 4 * most_samples ≤ longest_record =
      of-editions
      (λ e. e.layout.header-bytes + 2 * (e.layout.monitor-words + e.layout.offset-words) + 4 * most_samples ≤ longest_record)
      (omega arith) (omega arith) n in (
        f.long,
        ⊎_elim (λ p. omega (arith, p, f.words, l.last, l.longer, l.most, room))
            (λ p. omega (arith, p, f.words, l.last, l.shorter, l.most, room)) f.size,
      )

  -- every value fits its field
  pub values-small : T (all_fit decimal_fits (fields_of n) (read_all (fields_of n) b))
      × T (all_fit binary_fits (fields_of n) (read_all (fields_of n) b))
  values-small =
      values-fit (8 * header_bytes n) (fields_of n) b (fields-sound n) (held (all_digits_good (fields_of n) b) record-facts.good)
