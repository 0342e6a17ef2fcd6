-- A record is judged by its length and its front: by as many of its first bytes as a header has at most. Assumes nothing.
use Prim.Native.Nat.{ℕ, ◌+◌, ◌*◌, ◌≤◌, ◌<◌}
use mathlib.Core.Path.{◌≡◌, refl, sym, ◌∙◌}
use mathlib.Core.Bool.{Bool, true, false, cond}
use mathlib.Core.List.{List, [], ◌∷◌}
use mathlib.Core.Logic.{⊎_elim}
use native.Mathlib.Omega.{arith}
use lib.Dec.{T, ltb}
use lib.ListN.{length, take, length-take}
use borrow.Author.Tests.{lt-ltb, le-ltb}
use Rattle.lists.proofs.Order.{le-or-lt}
use Rattle.answers.specs.Refusal.{◌when◌, first, ◌then◌}
use Rattle.fields.specs.declared.Field.{Field}
use Rattle.fields.specs.Field.{start, bit_width, value_of}
use Rattle.fields.specs.Table.{sound}
use Rattle.fields.proofs.Tables.{sound_more}
use Rattle.fields.proofs.Front.{value-front, all-digits-front}
use Rattle.header.specs.Rows as row
use Rattle.header.specs.Edition.{is_unknown, fields_of, sample_rate, sync_word, header_bytes}
use Rattle.header.proofs.Sound.{of-editions, fields-sound}
use Rattle.checks.specs.Checks.{checks}
use Rattle.record.specs.Record.{header_refusal, front_refusal, record_refusal}

-- a record whose front is all of it: 25 and 1 come first there too
pub whole-front : (n : ℕ) (b : List ℕ) → record_refusal n b ≡ front_refusal n b (length b)
unfolding record_refusal front_refusal
whole-front n b = both_first (is_unknown n) (ltb (length b) (header_bytes n)) _
  where
    both_first : (u s : Bool) (m : ℕ) → cond u 25 (cond s 1 m) ≡ cond u 25 (cond s 1 0) then cond u 25 (cond s 1 m)
    both_first true s m = refl
    both_first false true m = refl
    both_first false false m = refl

-- ## the front is enough

-- the bytes of the longest header, that of 1992
abbrev pub longest_header : ℕ
longest_header = 166

header-inside : (n : ℕ) → header_bytes n ≤ longest_header
header-inside = of-editions (λ e. e.layout.header-bytes ≤ longest_header) (omega arith) (omega arith)

-- the fields that each edition has in its own place
rate-inside : (n : ℕ) → start (sample_rate n) + bit_width (sample_rate n) ≤ 8 * longest_header
rate-inside = of-editions (λ e. start e.sample-rate + bit_width e.sample-rate ≤ 8 * longest_header) (omega arith) (omega arith)

sync-inside : (n : ℕ) → start (sync_word n) + bit_width (sync_word n) ≤ 8 * longest_header
sync-inside = of-editions (λ e. start e.sync-word + bit_width e.sync-word ≤ 8 * longest_header) (omega arith) (omega arith)

module _ (n m : ℕ) (b : List ℕ) (long : longest_header ≤ m) where
  all-inside : T (sound (8 * m) (fields_of n))
  all-inside =
      sound_more (8 * header_bytes n) (8 * m) (fields_of n) (omega (arith, header-inside n)) (fields-sound n)

  -- the front is too short for the header exactly where the record is
  same_test : ltb (length b) (header_bytes n) ≡ ltb (length (take m b)) (header_bytes n)
  same_test =
      ⊎_elim
      (λ p. le-ltb _ _ p ∙ sym (le-ltb _ _ (let q : header_bytes n ≤ length (take m b) = omega (arith, length-take m b, header-inside n) in q)))
      (λ p. lt-ltb _ _ p ∙ sym (lt-ltb _ _ (let q : length (take m b) < header_bytes n = omega (arith, length-take m b) in q)))
      (le-or-lt (header_bytes n) (length b))

  same-header : header_refusal n b (length b) ≡ header_refusal n (take m b) (length b)
  same-header =
      let v : (f : Field) → start f + bit_width f ≤ 8 * longest_header → value_of f b ≡ value_of f (take m b) =
      λ f h. sym (value-front m b f (omega arith)) in
      λ t. first
      (checks n
      (record {
        bytes = length b;
        length_words = v row.length_words (omega arith) t;
        conversion = v row.conversion (omega arith) t;
        compression = v row.compression (omega arith) t;
        sample_rate = v (sample_rate n) (rate-inside n) t;
        tape_number = v row.tape_number (omega arith) t;
        record_number = v row.record_number (omega arith) t;
        year = v row.year (omega arith) t;
        day = v row.day (omega arith) t;
        time_tag = v row.time_tag (omega arith) t;
        readback_tag = v row.readback_tag (omega arith) t;
        decimals = sym (all-digits-front m b (fields_of n) all-inside) t;
        clock_origin = v row.clock_origin (omega arith) t;
        sync = v (sync_word n) (sync-inside n) t;
      }))

  pub front-enough : record_refusal n b ≡ front_refusal n (take m b) (length b)
  unfolding front_refusal
  front-enough =
      whole-front n b ∙ (λ t. first (25 when is_unknown n ∷ 1 when same_test t ∷ []) then same-header t)
