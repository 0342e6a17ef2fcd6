-- What blocks carry: their payloads, one after the other. FORMAT, "Blocks".
use Rattle.std.specs.Prelude.{ℕ, zero, suc, ◌*◌, ◌/◌, List, [], ◌++◌, length, take, drop}
use Rattle.block_check.specs.Check.{number_at, index_at, length_at, payload_at, block_bytes, word_at}

-- the whole blocks of so many bytes, and block i
abbrev pub whole_blocks : List ℕ → ℕ
whole_blocks s = length s / block_bytes

unfoldable pub block_at : List ℕ → ℕ → List ℕ
block_at s i = take block_bytes (drop (block_bytes * i) s)

-- the record number, the index and the payload length that a block names, and its payload
abbrev pub number_in : List ℕ → ℕ
number_in b = word_at b number_at

abbrev pub index_in : List ℕ → ℕ
index_in b = word_at b index_at

abbrev pub length_in : List ℕ → ℕ
length_in b = word_at b length_at

abbrev pub payload_of : List ℕ → List ℕ
payload_of b = take (length_in b) (drop payload_at b)

-- the payloads of the first n blocks, and of all
unfoldable pub carried : List ℕ → ℕ → List ℕ
carried s zero = []
carried s (suc i) = carried s i ++ payload_of (block_at s i)

abbrev pub carried_of : List ℕ → List ℕ
carried_of s = carried s (whole_blocks s)
