-- What is written is read back the same, and what was read and is written back changes no byte of an accepted record
-- (demand 2). The claims are at the end. They are about the definitions that the promises of `write_header` and
-- `read_header` cite. Assumes nothing.
use Prim.Native.Nat.{ℕ, ◌-◌, ◌*◌, ◌≤◌, ◌<◌}
use mathlib.Core.Path.{◌≡◌, ap, sym, ◌∙◌, subst}
use mathlib.Core.Bool.{Bool, true, false, not, cond}
use mathlib.Core.List.{List, [], ◌∷◌}
use mathlib.Core.Logic.{◌⊎◌, ⊎_elim}
use native.Mathlib.Omega.{arith}
use lib.Dec.{T, eqb}
use lib.ListN.{length, get_or}
use borrow.Author.Tests.{not-false}
use Rattle.lists.proofs.Truth.{holds, held}
use Rattle.bits.specs.Bits.{bit_at}
use Rattle.fields.specs.Field.{value_of, decimal_fits, binary_fits}
use Rattle.fields.specs.Table.{read_all, write_all, all_digits_good, all_fit, value_in, sound, unnamed}
use Rattle.fields.proofs.Tables.{read-write, write_read, digits-write, length-write, sound_more, bits-kept, past-unnamed, between-unnamed}
use Rattle.header.specs.Rows as row
use Rattle.header.specs.Edition.{edition_of, fields_of, header_bytes}
use Rattle.header.proofs.Sound.{fields-sound, sample-rate-read, sync-read}
use Rattle.std.specs.Prelude.{Ok}
use Rattle.answers.specs.Answer.{accepted}
use Rattle.answers.specs.Refused.{answer_in}
use Rattle.answers.specs.Refusal.{◌when◌, first}
use Rattle.checks.specs.declared.Judged.{Judged}
use Rattle.checks.specs.Checks.{checks, judged_of}
use Rattle.checks.proofs.Accepted.{Accepted, accepted-facts}
use Rattle.record.specs.Record.{record_refusal, no_values, header_answer, write_refusal, after_writing}
use Rattle.answers.proofs.Refusals.{then-none, then-zero, cond-none, unless-none, given-value, none-applies}
use Rattle.record.proofs.Accepted.{record-facts, values-small}

-- ## values that are not refused

-- 25 and 1 to 11 for values of the edition n to be written into so many bytes
abbrev pub judged : ℕ → Bool → List ℕ → ℕ → ℕ
judged n d v bytes = first (checks n (judged_of n bytes (value_in (fields_of n) v) d))

-- what is judged of bytes is what is judged of the values that they hold
judged-read : (n bytes : ℕ) (b : List ℕ) (d : Bool)
    → judged_of n bytes (λ f. value_of f b) d ≡ judged_of n bytes (value_in (fields_of n) (read_all (fields_of n) b)) d
judged-read n bytes b d i =
    record {
      bytes = bytes;
      length_words = value_of row.length_words b;
      conversion = value_of row.conversion b;
      compression = value_of row.compression b;
      sample_rate = sym (sample-rate-read n b) i;
      tape_number = value_of row.tape_number b;
      record_number = value_of row.record_number b;
      year = value_of row.year b;
      day = value_of row.day b;
      time_tag = value_of row.time_tag b;
      readback_tag = value_of row.readback_tag b;
      decimals = d;
      clock_origin = value_of row.clock_origin b;
      sync = sym (sync-read n b) i;
    }

pub refusal-read : (n : ℕ) (b : List ℕ) → record_refusal n b ≡ judged n (all_digits_good (fields_of n) b) (read_all (fields_of n) b) (length b)
unfolding record_refusal
refusal-read n b = ap (λ (j : Judged). first (checks n j)) (judged-read n (length b) b (all_digits_good (fields_of n) b))

module _ (n : ℕ) (v : List ℕ) (b : List ℕ) (e : write_refusal n (length b) v ≡ 0) where
  both-none : (judged n (all_fit decimal_fits (fields_of n) v) v (length b) ≡ 0)
      × (first (22 when not (all_fit binary_fits (fields_of n) v) ∷ []) ≡ 0)
  unfolding write_refusal
  both-none = then-zero _ _ e

  facts : Accepted n (judged_of n (length b) (value_in (fields_of n) v) (all_fit decimal_fits (fields_of n) v))
  facts = accepted-facts n _ both-none.0

  decimals-fit : T (all_fit decimal_fits (fields_of n) v)
  decimals-fit = held (all_fit decimal_fits (fields_of n) v) facts.good

  binaries-fit : T (all_fit binary_fits (fields_of n) v)
  binaries-fit =
      held (all_fit binary_fits (fields_of n) v)
      (not-false _ (none-applies (22 when not (all_fit binary_fits (fields_of n) v) ∷ []) 0 tt both-none.1))

  table-sound : T (sound (8 * length b) (fields_of n))
  table-sound = sound_more (8 * header_bytes n) (8 * length b) (fields_of n) (omega (arith, facts.long)) (fields-sound n)

  after : after_writing n b v ≡ write_all (fields_of n) v b
  unfolding after_writing
  after = cond-none (write_refusal n (length b) v) b (write_all (fields_of n) v b) e

  same_length : length (write_all (fields_of n) v b) ≡ length b
  same_length = length-write (fields_of n) v b

  values-read : read_all (fields_of n) (write_all (fields_of n) v b) ≡ v
  values-read = read-write (fields_of n) v b table-sound decimals-fit binaries-fit

  digits-read : all_digits_good (fields_of n) (write_all (fields_of n) v b) ≡ all_fit decimal_fits (fields_of n) v
  digits-read = holds _ (digits-write (fields_of n) v b table-sound decimals-fit binaries-fit) ∙ sym facts.good

  -- the values that a reader judges are those that were written
  accepted-again : record_refusal n (write_all (fields_of n) v b) ≡ 0
  accepted-again =
      refusal-read n (write_all (fields_of n) v b)
      ∙ (λ i. judged n (digits-read i) (values-read i) (same_length i)) ∙ both-none.0

-- ## the claims

-- values that are written are read back the same, from a record that is accepted
pub written-is-read : (n : ℕ) (v b : List ℕ) → write_refusal n (length b) v ≡ 0 → header_answer n (after_writing n b v) ≡ accepted v
unfolding header_answer
written-is-read n v b e =
    let c : List ℕ = write_all (fields_of n) v b in
    ap (header_answer n) (after n v b e)
    ∙ sym (unless-none (record_refusal n c) no_values (read_all (fields_of n) c) (accepted-again n v b e))
    ∙ ap (λ (w : List ℕ). accepted w) (values-read n v b e)

-- what was read and is written back is not refused, and changes no byte of an accepted record
pub read-is-written : (n : ℕ) (b : List ℕ) → ((k : ℕ) → get_or b k 0 < 256) → record_refusal n b ≡ 0
    → (write_refusal n (length b) (read_all (fields_of n) b) ≡ 0) × (after_writing n b (read_all (fields_of n) b) ≡ b)
unfolding write_refusal after_writing
read-is-written n b bytes e =
    let f = record-facts n b e in
    let v : List ℕ = read_all (fields_of n) b in
    let small = values-small n b e in
    let d : all_fit decimal_fits (fields_of n) v ≡ all_digits_good (fields_of n) b = holds _ small.0 ∙ sym f.good in
    let w : all_fit binary_fits (fields_of n) v ≡ true = holds _ small.1 in
    let r : write_refusal n (length b) v ≡ 0 =
    then-none _ _ (ap (λ (t : Bool). judged n t v (length b)) d ∙ sym (refusal-read n b) ∙ e)
    ∙ ap (λ (t : Bool). first (22 when not t ∷ [])) w in (
      r,
      cond-none (write_refusal n (length b) v) b (write_all (fields_of n) v b) r
          ∙ write_read (8 * header_bytes n) (fields_of n) b (fields-sound n) bytes (held (all_digits_good (fields_of n) b) f.good),
    )

-- the same of the very values that `read_header` answered: what it gave, `write_header` writes back without changing a byte
pub answer-is-written : (n : ℕ) (b v : List ℕ) → ((k : ℕ) → get_or b k 0 < 256) → answer_in no_values (Ok v) ≡ header_answer n b
    → (write_refusal n (length b) v ≡ 0) × (after_writing n b v ≡ b)
unfolding header_answer
answer-is-written n b v bytes e =
    let both = given-value (record_refusal n b) no_values (read_all (fields_of n) b) v e in
    subst (λ (w : List ℕ). (write_refusal n (length b) w ≡ 0)
    × (after_writing n b w ≡ b)) (sym both.1) (read-is-written n b bytes both.0)

-- bits that no field names keep what they held
pub unnamed-kept : (n : ℕ) (v b : List ℕ) (i : ℕ) → unnamed i (fields_of n) → bit_at (after_writing n b v) i ≡ bit_at b i
unfolding after_writing
unnamed-kept n v b i u = by-test (eqb (write_refusal n (length b) v) 0)
  where
    by-test : (t : Bool) → bit_at (cond t (write_all (fields_of n) v b) b) i ≡ bit_at b i
    by-test true = bits-kept (fields_of n) v b i u
    by-test false = λ j. bit_at b i

-- and so does every bit past the header
pub past-kept : (n : ℕ) (v b : List ℕ) (i : ℕ) → 8 * header_bytes n ≤ i → bit_at (after_writing n b v) i ≡ bit_at b i
past-kept n v b i p = unnamed-kept n v b i (past-unnamed (8 * header_bytes n) (fields_of n) i (fields-sound n) p)

-- and, in 1992, every bit of words 42 to 79, 82 and 83, which are not read
abbrev word : ℕ → ℕ
word w = 16 * (w - 1)

pub unread-kept : (v b : List ℕ) (i : ℕ) → ((word 42 ≤ i) × (i < word 80)) ⊎ ((word 82 ≤ i) × (i < word 84))
    → bit_at (after_writing 1992 b v) i ≡ bit_at b i
unfolding edition_of
unread-kept v b i within =
    unnamed-kept 1992 v b i
    (⊎_elim (λ h. between-unnamed (word 42) (word 80) (fields_of 1992) i tt h.0 h.1)
    (λ h. between-unnamed (word 82) (word 84) (fields_of 1992) i tt h.0 h.1) within)
