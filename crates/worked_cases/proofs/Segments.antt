-- The segment question's promise holds of one list of starts and lengths alone: there is a record on which every other start or
-- length gives another answer. Assumes nothing.
use Prim.Native.Nat.{ℕ, zero, suc, ◌+◌, ◌-◌, ◌*◌, ◌≤◌, ◌<◌, min}
use mathlib.Core.Path.{◌≡◌, refl, ap, sym, ◌∙◌}
use mathlib.Core.Bool.{Bool, true, false, cond, not, ◌&&◌}
use mathlib.Core.List.{List, [], ◌∷◌}
use mathlib.Core.Logic.{⊎_elim}
use native.Mathlib.Nat.{le_of_suc-le-suc, not-suc-le-zero}
use native.Mathlib.Omega.{arith}
use lib.Dec.{T}
use lib.ListN.{length, take, drop, get_or, length-take, length-drop, get_or-eq_default}
use borrow.Author.Tests.{lt-leb}
use lib.Seq.{get_or-take, get_or-drop, get_or-append-add}
use Rattle.bits.specs.Bits.{get_bits, num, bit_at}
use Rattle.bits.specs.Decimal.{digits}
use Rattle.fields.specs.Field.{value_of, digits_good}
use Rattle.sample_rates.specs.Rates.{line_in}
use Rattle.header.specs.Edition.{edition_of, no_segments}
use Rattle.editions.specs.Rates.{sample_rate_of}
use Rattle.lists.specs.Tests.{all}
use Rattle.lists.specs.Fill.{tab}
use Rattle.lists.proofs.Fill.{get_or-tab}
use Rattle.lists.proofs.Order.{le-or-lt}
use Rattle.lists.proofs.Truth.{each, holds}
use Rattle.answers.specs.Answer.{Answer, accepted, unless}
use Rattle.answers.specs.Refusal.{◌when◌, first, ◌then◌}
use Rattle.record.specs.Record.{record_refusal}
use Rattle.record.specs.Stretch.{record_rate}
use Rattle.monitor.specs.Monitor.{segment_count, last_sample_word_of, monitor_bytes, is_new, chosen_record}
use Rattle.segments.specs.declared.Row.{Row}
use Rattle.segments.specs.Segments.{segment_at, first_word, word_count, SoundSegment}
use Rattle.segments.specs.Question.{segment_row, segment_bytes, segment_answer}
use Rattle.segments.proofs.Sound.{sound-segment}
use Rattle.worked_cases.specs.Numbered.{words_from, before_monitor, numbered}

-- ## the record

is-accepted : record_refusal 1985 numbered ≡ 0
unfolding get_bits num bit_at digits value_of digits_good edition_of sample_rate_of line_in record_refusal
is-accepted = refl

last_word : last_sample_word_of 1985 numbered ≡ 240
unfolding get_bits num bit_at value_of edition_of sample_rate_of line_in record_rate last_sample_word_of
last_word = refl

has-segments : no_segments 1985 ≡ false
unfolding edition_of
has-segments = refl

all_new : T (all (tab (is_new 1985 numbered) 0 segment_count))
unfolding get_bits num bit_at value_of edition_of sample_rate_of line_in record_rate last_sample_word_of is_new
all_new = tt

is-new : (row : ℕ) → row < segment_count → is_new 1985 numbered row ≡ true
is-new row h =
    sym (get_or-tab (is_new 1985 numbered) segment_count row true h)
    ∙ holds _ (each (tab (is_new 1985 numbered) 0 segment_count) row all_new)

-- ## the second byte of a word is its number

in_words : (w n i : ℕ) → i < n → get_or (words_from w n) (2 * i + 1) 0 ≡ w + i
in_words w zero i h = absurd (not-suc-le-zero h)
in_words w (suc n) zero h = omega arith
in_words w (suc n) (suc i) h =
    let e : 2 * suc i + 1 ≡ suc (suc (2 * i + 1)) = omega arith in
    ap (λ (k : ℕ). get_or (words_from w (suc n)) k 0) e ∙ in_words (suc w) n i (le_of_suc-le-suc h) ∙ omega arith

-- of word f after N, offsets included
second-byte : (f : ℕ) → 1 ≤ f → f ≤ 155 → get_or numbered (2 * (240 + f - 1) + 1) 0 ≡ f
second-byte f some most =
    let e : 2 * (240 + f - 1) + 1 ≡ 480 + (2 * (f - 1) + 1) = omega arith in
    ap (λ (k : ℕ). get_or numbered k 0) e
    ∙ get_or-append-add before_monitor (words_from 1 155) (2 * (f - 1) + 1) 0
    ∙ in_words 1 155 (f - 1) (omega arith)
    ∙ omega arith

-- a second byte that is not 0 tells the word
told : (f g : ℕ) → 1 ≤ g → get_or numbered (2 * (240 + f - 1) + 1) 0 ≡ g → f ≡ g
told f g some e = ⊎_elim within past (le-or-lt f 155)
  where
    within : f ≤ 155 → f ≡ g
    within most = ⊎_elim none (λ h. sym (second-byte f h most) ∙ e) (le-or-lt f 0)
      where
        none : f ≤ 0 → f ≡ g
        none h =
            let at-0 : 0 ≡ f = omega arith in
            let e-0 : 0 ≡ g = ap (λ (k : ℕ). get_or numbered (2 * (240 + k - 1) + 1) 0) at-0 ∙ e in
            absurd (omega (arith, e-0, some))

    past : 155 < f → f ≡ g
    past h =
        let z = get_or-eq_default numbered 0 {n = 2 * (240 + f - 1) + 1} (omega arith) in
        absurd (omega (arith, sym z ∙ e, some))

-- ## the bytes of a segment tell its start and its length

module _ (s : Row) where
  abbrev start : ℕ
  start = 2 * (240 + first_word s - 1)

  shown : segment_bytes 1985 numbered s ≡ take (2 * word_count s) (drop start numbered)
  unfolding monitor_bytes
  shown = ap (λ (m : ℕ). take (2 * word_count s) (drop (2 * (m + first_word s - 1)) numbered)) last_word

  size : length (segment_bytes 1985 numbered s) ≡ min (2 * word_count s) (790 - start)
  size =
      ap length shown
      ∙ length-take (2 * word_count s) (drop start numbered)
      ∙ ap (min (2 * word_count s)) (length-drop start numbered)

  begins : 1 ≤ word_count s → get_or (segment_bytes 1985 numbered s) 1 0 ≡ get_or numbered (start + 1) 0
  begins some =
      ap (λ (l : List ℕ). get_or l 1 0) shown
      ∙ get_or-take (2 * word_count s) (drop start numbered) 1 0 (omega arith)
      ∙ get_or-drop start numbered 1 0

module _ (s t : Row) (sound : SoundSegment t) (same : segment_bytes 1985 numbered s ≡ segment_bytes 1985 numbered t) where
  whole : min (2 * word_count t) (790 - start t) ≡ 2 * word_count t
  whole = omega (arith, sound.first, sound.some, sound.end)

  sizes : min (2 * word_count s) (790 - start s) ≡ 2 * word_count t
  sizes = sym (size s) ∙ ap length same ∙ size t ∙ whole

  same_first : first_word s ≡ first_word t
  same_first =
      told (first_word s) (first_word t) sound.first
      (sym (begins s (omega (arith, sizes, sound.some)))
      ∙ ap (λ (l : List ℕ). get_or l 1 0) same
      ∙ begins t sound.some
      ∙ second-byte (first_word t) sound.first (omega (arith, sound.end, sound.some)))

  same_count : word_count s ≡ word_count t
  same_count = omega (arith, sizes, same_first, sound.first, sound.some, sound.end)

-- ## what the segment question answers

-- of this record asked with itself, by its refusal, whether the edition has no segments, whether there is no such row, and the
-- status bit
abbrev answer_by : ℕ → ℕ → Bool → Bool → Bool → Answer (List ℕ)
answer_by row k lacks none new =
    unless (k then k then first (26 when lacks ∷ 20 when none ∷ 23 when (not new && not new) ∷ [])) []
    (segment_bytes 1985 (cond new numbered numbered) (segment_at row))

module _ (number : ℕ) (h : segment_row number < segment_count) where
  abbrev own : Row
  own = segment_at (segment_row number)

  -- on this record it is the bytes of the list's row
  pub answered : segment_answer 1985 numbered numbered number ≡ accepted (segment_bytes 1985 numbered own)
  unfolding segment_answer chosen_record
  answered =
      let row = segment_row number in
      λ i. answer_by row (is-accepted i) (has-segments i) (lt-leb segment_count row h i) (is-new row h i)

  -- and no row with another start or another length has these bytes: a list with one number changed does not keep the promise
  pub only-these-words : (s : Row) → segment_answer 1985 numbered numbered number ≡ accepted (segment_bytes 1985 numbered s)
      → (first_word s ≡ first_word own) × (word_count s ≡ word_count own)
  only-these-words s e =
      let same = ap (λ (a : Answer (List ℕ)). a.value) (sym e ∙ answered) in
      let sound = sound-segment (segment_row number) h in
      (same_first s own sound same, same_count s own sound same)
