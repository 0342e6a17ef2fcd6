-- The refusals of export and import, in the order of checking. FORMAT, "Blocks", "Refusal numbers".
use Rattle.std.specs.Prelude.{ℕ, ◌+◌, ◌-◌, ◌*◌, ◌%◌, Bool, cond, not, ◌&&◌, ◌||◌, List, [], ◌∷◌, eqb, leb, ltb, length, get_or}
use Rattle.lists.specs.Tests.{all_to, first_not}
use Rattle.answers.specs.Refusal.{◌when◌, first, ◌then◌}
use Rattle.header.specs.Edition.{is_unknown}
use Rattle.record.specs.Record.{record_refusal}
use Rattle.block_check.specs.Check.{payload_at, block_bytes, payload_bytes, word_at, passes}
use Rattle.block_layout.specs.Layout.{block_count}
use Rattle.block_layout.specs.Carried.{whole_blocks, block_at, number_in, index_in, length_in, carried_of}

-- ## export

-- of a record into so many bytes of room
unfoldable pub export_refusal : ℕ → List ℕ → ℕ → ℕ
export_refusal n r room = record_refusal n r then first (21 when ltb room (block_bytes * block_count (length r)) ∷ [])

-- of its block i alone: 28 where there is none
unfoldable pub block_refusal : ℕ → List ℕ → ℕ → ℕ → ℕ
block_refusal n r i room =
    record_refusal n r then first (28 when leb (block_count (length r)) i ∷ 21 when ltb room block_bytes ∷ [])

-- ## import

-- 27: the check of each whole block
unfoldable pub checks_pass : List ℕ → Bool
checks_pass s = all_to (λ (i : ℕ). passes (block_at s i)) (whole_blocks s)

-- the first block whose check is bad; where none is, how many there are
unfoldable pub first_bad : List ℕ → ℕ
first_bad s = first_not (λ (i : ℕ). passes (block_at s i)) (whole_blocks s)

-- 28: block i of n is full, but the last holds 1 to 504
abbrev pub full_or_last : ℕ → ℕ → ℕ → Bool
full_or_last n i bytes = cond (ltb (i + 1) n) (eqb bytes payload_bytes) (leb 1 bytes && leb bytes payload_bytes)

-- block 0 holds the record's word 2
abbrev pub holds_number : ℕ → ℕ → Bool
holds_number i bytes = not (eqb i 0) || leb 4 bytes

abbrev pub length_right : ℕ → ℕ → ℕ → Bool
length_right n i bytes = full_or_last n i bytes && holds_number i bytes

-- zero after the last used byte
unfoldable pub padded : List ℕ → Bool
padded b = all_to (λ (k : ℕ). eqb (get_or b (payload_at + length_in b + k) 0) 0) (payload_bytes - length_in b)

-- block i of n, of the record of that number
unfoldable pub block_right : ℕ → ℕ → ℕ → List ℕ → Bool
block_right number n i b = eqb (number_in b) number && (eqb (index_in b) i && (length_right n i (length_in b) && padded b))

-- the right number is word 2 of block 0's payload, whose first byte is its byte 2
abbrev pub right_number : List ℕ → ℕ
right_number s = word_at s (payload_at + 2)

-- each of n blocks
abbrev pub each_right : ℕ → List ℕ → ℕ → Bool
each_right number s n = all_to (λ (i : ℕ). block_right number n i (block_at s i)) n

-- at least one block, no part block, and each block right
unfoldable pub blocks_right : List ℕ → Bool
blocks_right s = leb 1 (whole_blocks s) && (eqb (length s % block_bytes) 0 && each_right (right_number s) s (whole_blocks s))

-- what is refused of blocks whatever they carry: 25, 27, 28
unfoldable pub blocks_refusal : ℕ → List ℕ → ℕ
blocks_refusal n s = first (25 when is_unknown n ∷ 27 when not (checks_pass s) ∷ 28 when not (blocks_right s) ∷ [])

-- of blocks into so many bytes of room
unfoldable pub import_refusal : ℕ → List ℕ → ℕ → ℕ
import_refusal n s room =
    blocks_refusal n s then record_refusal n (carried_of s) then first (21 when ltb room (length (carried_of s)) ∷ [])
