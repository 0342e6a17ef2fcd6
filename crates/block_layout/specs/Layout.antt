-- The blocks of a record. FORMAT, "Blocks": record number, block index from 0 and payload length, two bytes each, high byte
-- first; 504 bytes of payload, zero after the last used byte; a two-byte check, high byte first.
use Rattle.std.specs.Prelude.{ℕ, zero, suc, ◌+◌, ◌-◌, ◌*◌, ◌/◌, ◌%◌, min, List, [], ◌∷◌, ◌++◌, length, get_or}
use Rattle.lists.specs.Fill.{tab}
use Rattle.block_check.specs.Check.{payload_bytes, check_of, word_at}

-- the two bytes of a number below 65,536, high byte first
abbrev pub word_bytes : ℕ → List ℕ
word_bytes x = x / 256 % 256 ∷ x % 256 ∷ []

-- a payload whose byte k is by the rule
unfoldable pub payload_by : (ℕ → ℕ) → List ℕ
payload_by rule = tab rule 0 payload_bytes

-- what the check covers: number, index and payload length, and the payload
unfoldable pub body_of : ℕ → ℕ → ℕ → (ℕ → ℕ) → List ℕ
body_of number index bytes payload = word_bytes number ++ (word_bytes index ++ (word_bytes bytes ++ payload_by payload))

-- the whole block
unfoldable pub layout : ℕ → ℕ → ℕ → (ℕ → ℕ) → List ℕ
layout number index bytes payload = body_of number index bytes payload ++ word_bytes (check_of (body_of number index bytes payload))

-- the blocks of so many bytes, and the payload length of block i: every block but the last is full
abbrev pub block_count : ℕ → ℕ
block_count bytes = (bytes + (payload_bytes - 1)) / payload_bytes

abbrev pub payload_length : ℕ → ℕ → ℕ
payload_length bytes i = min payload_bytes (bytes - payload_bytes * i)

-- byte k of the payload of block i; past the record's last byte, 0
abbrev pub payload_byte : List ℕ → ℕ → ℕ → ℕ
payload_byte r i k = get_or r (payload_bytes * i + k) 0

-- the number of a record, its word 2, whose first byte is byte 2
abbrev pub number_of : List ℕ → ℕ
number_of r = word_at r 2

-- block i of the record r
abbrev pub block_of : List ℕ → ℕ → List ℕ
block_of r i = layout (number_of r) i (payload_length (length r) i) (payload_byte r i)

-- the first n blocks of a record, and all of them
unfoldable pub blocks : List ℕ → ℕ → List ℕ
blocks r zero = []
blocks r (suc i) = blocks r i ++ block_of r i

abbrev pub exported_of : List ℕ → List ℕ
exported_of r = blocks r (block_count (length r))
