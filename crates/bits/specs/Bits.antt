-- Bits of a run of bytes, and a field of them as a number. FORMAT, "The record": "Words are 16 bits, bit 1 the most
-- significant; a word is stored high byte first": so the bits of a record, counted from 0, run on through its bytes, the most
-- significant first.
use Rattle.std.specs.Prelude.{ℕ, zero, suc, ◌+◌, ◌-◌, ◌*◌, ◌/◌, ◌%◌, ◌^◌, cond, List, [], ◌∷◌, leb, ltb, length, get_or}

-- bit i of the bytes b; 0 past the end
unfoldable pub bit_at : List ℕ → ℕ → ℕ
bit_at b i = get_or b (i / 8) 0 / 2 ^ (7 - i % 8) % 2

-- the w bits of f from s on, as a number, the most significant first
unfoldable pub num : (ℕ → ℕ) → ℕ → ℕ → ℕ
num f s zero = 0
num f s (suc w) = num f s w * 2 + f (s + w)

-- f with its w bits from s on replaced by the lowest w bits of v
unfoldable pub put : ℕ → ℕ → ℕ → (ℕ → ℕ) → ℕ → ℕ
put s w v f i = cond (leb s i) (cond (ltb i (s + w)) (v / 2 ^ (s + w - 1 - i) % 2) (f i)) (f i)

-- n bytes, from byte k on, of the bits f
unfoldable pub bytes_of : (ℕ → ℕ) → ℕ → ℕ → List ℕ
bytes_of f k zero = []
bytes_of f k (suc n) = num f (8 * k) 8 ∷ bytes_of f (suc k) n

-- the field of w bits from bit s on
unfoldable pub get_bits : ℕ → ℕ → List ℕ → ℕ
get_bits s w b = num (bit_at b) s w

-- the bytes b with that field set to v
unfoldable pub set_bits : ℕ → ℕ → ℕ → List ℕ → List ℕ
set_bits s w v b = bytes_of (put s w v (bit_at b)) 0 (length b)

-- the most bits of a field that the code takes: eight bytes hold it wherever it starts
abbrev pub widest : ℕ
widest = 56
