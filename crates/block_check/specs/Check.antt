-- The places and sizes of a block's parts, and its check: the first 510 bytes of the block's 512, each times its place counted from
-- 1, added up modulo 65,521; the last two bytes hold it, high byte first. FORMAT, "Blocks".
use Rattle.std.specs.Prelude.{ℕ, zero, suc, ◌+◌, ◌*◌, ◌%◌, Bool, List, eqb, get_or, set}

-- where a block has its record number, its index and its payload length, two bytes each, and where its payload starts
abbrev pub number_at : ℕ
number_at = 0

abbrev pub index_at : ℕ
index_at = 2

abbrev pub length_at : ℕ
length_at = 4

abbrev pub payload_at : ℕ
payload_at = 6

-- the bytes of a block, of its payload, and those that the check covers, behind which it stands
abbrev pub block_bytes : ℕ
block_bytes = 512

abbrev pub payload_bytes : ℕ
payload_bytes = 504

abbrev pub covered : ℕ
covered = 510

abbrev pub modulus : ℕ
modulus = 65521

-- the first n bytes, each times its place counted from 1, added up
unfoldable pub weighted : List ℕ → ℕ → ℕ
weighted b zero = 0
weighted b (suc n) = weighted b n + get_or b n 0 * suc n

abbrev pub check_of : List ℕ → ℕ
check_of b = weighted b covered % modulus

-- the number that the two bytes from place k on make, high byte first
abbrev pub word_at : List ℕ → ℕ → ℕ
word_at b k = get_or b k 0 * 256 + get_or b (k + 1) 0

-- the block's last two bytes are its check
abbrev pub passes : List ℕ → Bool
passes b = eqb (word_at b covered) (check_of b)

-- the list with the bytes at i and j exchanged
abbrev pub exchanged : List ℕ → ℕ → ℕ → List ℕ
exchanged b i j = set (set b i (get_or b j 0)) j (get_or b i 0)
