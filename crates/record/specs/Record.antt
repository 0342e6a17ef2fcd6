-- Which records of an edition are accepted, and what is read and written of them. FORMAT, "The record", "Refusal numbers".
use Rattle.std.specs.Prelude.{ℕ, cond, not, List, [], ◌∷◌, eqb, ltb, length}
use Rattle.lists.specs.Fill.{tab}
use Rattle.answers.specs.Answer.{Answer, unless}
use Rattle.answers.specs.Refusal.{◌when◌, first, ◌then◌}
use Rattle.fields.specs.Field.{value_of, decimal_fits, binary_fits}
use Rattle.fields.specs.Table.{read_all, write_all, all_digits_good, all_fit, value_in}
use Rattle.header.specs.Format.{field_count}
use Rattle.header.specs.Edition.{is_unknown, header_bytes, fields_of}
use Rattle.checks.specs.Checks.{checks, judged_of}

-- 25 and 1 to 11 of so many bytes whose header is read from these
abbrev pub header_refusal : ℕ → List ℕ → ℕ → ℕ
header_refusal n front bytes = first (checks n (judged_of n bytes (λ f. value_of f front) (all_digits_good (fields_of n) front)))

-- the refusal of the bytes b as a record of the edition n, 25 or 1 to 11, or 0
unfoldable pub record_refusal : ℕ → List ℕ → ℕ
record_refusal n b = first (checks n (judged_of n (length b) (λ f. value_of f b) (all_digits_good (fields_of n) b)))

-- the refusal of a record of so many bytes whose first ones are these; 1 also where these are fewer than a header. Where they are
-- its first 166 or more, or all of it, this is the record's refusal (proofs/Front)
unfoldable pub front_refusal : ℕ → List ℕ → ℕ → ℕ
front_refusal n front bytes =
    first (25 when is_unknown n ∷ 1 when ltb (length front) (header_bytes n) ∷ []) then header_refusal n front bytes

-- no accepted record has more bytes: 2,195 words, in 1985 (proofs/Accepted)
abbrev pub longest_record : ℕ
longest_record = 4390

-- beside a refusal: 0 throughout
abbrev pub no_values : List ℕ
no_values = tab (λ (k : ℕ). 0) 0 field_count

-- the values of the header's fields, or the refusal
unfoldable pub header_answer : ℕ → List ℕ → Answer (List ℕ)
header_answer n b = unless (record_refusal n b) no_values (read_all (fields_of n) b)

-- the refusal of values of the edition n to be written into so many bytes, or 0: as a reader would give for those fields, then 22
unfoldable pub write_refusal : ℕ → ℕ → List ℕ → ℕ
write_refusal n bytes v =
    first (checks n (judged_of n bytes (value_in (fields_of n) v) (all_fit decimal_fits (fields_of n) v)))
    then first (22 when not (all_fit binary_fits (fields_of n) v) ∷ [])

-- the bytes after writing: a refusal changes nothing
unfoldable pub after_writing : ℕ → List ℕ → List ℕ → List ℕ
after_writing n b v = cond (eqb (write_refusal n (length b) v) 0) (write_all (fields_of n) v b) b
