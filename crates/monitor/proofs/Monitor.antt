-- Where the monitor words of a record lie, and what is known where a segment question is not refused. Assumes nothing.
use Prim.Native.Nat.{ℕ, ◌+◌, ◌*◌, ◌≤◌, ◌<◌}
use mathlib.Core.Path.{◌≡◌, refl, sym, subst}
use mathlib.Core.Bool.{Bool, true, false, cond, not, ◌&&◌}
use mathlib.Core.List.{List, [], ◌∷◌}
use mathlib.Core.Logic.{⊎_elim}
use native.Mathlib.Omega.{arith}
use lib.Dec.{eqb, lit≤}
use lib.ListN.{length}
use borrow.Author.Tests.{eqb-false, leb-false}
use Rattle.fields.specs.Field.{value_of}
use Rattle.sample_rates.specs.declared.SampleRate.{SampleRate}
use Rattle.sample_rates.specs.Rates.{last_sample_word}
use Rattle.header.specs.Edition.{header_bytes, sample_rate, monitor_words_of, no_segments}
use Rattle.header.proofs.Sound.{of-editions}
use Rattle.editions.proofs.Lines.{rate-line}
use Rattle.answers.specs.Refusal.{◌when◌, first, ◌then◌}
use Rattle.answers.proofs.Refusals.{then-zero, none-applies}
use Rattle.record.specs.Record.{record_refusal}
use Rattle.record.specs.Stretch.{record_rate}
use Rattle.record.proofs.Accepted.{record-facts, stretch-inside}
use Rattle.monitor.specs.Monitor.{last_sample_word_of, most_last_word, monitor_words, segment_count, is_new, is_no_row, row_refusal, chosen_record}

-- every edition that has segments has 150 monitor words
pub monitor-words : (n : ℕ) → no_segments n ≡ false → monitor_words_of n ≡ monitor_words
monitor-words =
    of-editions (λ e. eqb e.layout.monitor-words 0 ≡ false → e.layout.monitor-words ≡ monitor_words) (λ h. refl)
    (λ h. absurd (eqb-false 0 0 h refl))

header-most : (n : ℕ) → header_bytes n ≤ 166
header-most = of-editions (λ e. e.layout.header-bytes ≤ 166) (lit≤ tt) (lit≤ tt)

pub last_word_most : (n : ℕ) (b : List ℕ) → last_sample_word_of n b ≤ most_last_word
unfolding last_sample_word_of record_rate
last_word_most n b =
    ⊎_elim (λ e. subst (λ (l : SampleRate). last_sample_word l ≤ most_last_word) (sym e) (omega arith))
    (λ l. omega (arith, l.last, l.most, header-most n)) (rate-line n (value_of (sample_rate n) b))

-- the monitor words of an accepted record lie within it
abbrev pub WordsInside : ℕ → List ℕ → Type 0
WordsInside n b = 2 * (last_sample_word_of n b + monitor_words) ≤ length b

words_inside : (n : ℕ) (b : List ℕ) → record_refusal n b ≡ 0 → no_segments n ≡ false → WordsInside n b
unfolding last_sample_word_of record_rate
words_inside n b e has = omega (arith, (record-facts n b e).line.last, stretch-inside n b e, monitor-words n has)

-- where nothing is refused, there is such a row, and the record that is chosen has the monitor words
module _ (n : ℕ) (this earlier : List ℕ) (row : ℕ) (none : row_refusal n this earlier row ≡ 0) where
  known : (record_refusal n this ≡ 0) × (record_refusal n earlier ≡ 0) × (no_segments n ≡ false) × (is_no_row row ≡ false)
  known =
      let tests = 26 when no_segments n ∷ 20 when is_no_row row ∷ 23 when (not (is_new n this row) && not (is_new n earlier row)) ∷ [] in
      let p = then-zero (record_refusal n this) (record_refusal n earlier then first tests) none in
      let q = then-zero (record_refusal n earlier) (first tests) p.1 in
      (p.0, q.0, none-applies tests 0 tt q.1, none-applies tests 1 tt q.1)

  pub row-there : row < segment_count
  row-there = leb-false segment_count row known.3

  pub chosen-inside : WordsInside n (chosen_record n this earlier row)
  unfolding chosen_record
  chosen-inside = by-new (is_new n this row)
    where
      by-new : (t : Bool) → WordsInside n (cond t this earlier)
      by-new true = words_inside n this known.0 known.2
      by-new false = words_inside n earlier known.1 known.2
