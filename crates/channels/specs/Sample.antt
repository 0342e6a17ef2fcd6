-- Samples: two's complement bytes, the four channels in turn. FORMAT, "Samples". A stretch is the bytes of a record's samples, so
-- sample k of channel c is its byte 4k + (c - 1).
use Rattle.std.specs.Prelude.{ℕ, ◌+◌, ◌-◌, ◌*◌, ◌/◌, ◌%◌, min, cond, ◌||◌, List, [], ◌++◌, length, drop, get_or, ℤ, pos, negsuc, eqb, ltb}
use Rattle.lists.specs.Fill.{tab}

-- a byte as a two's complement number: below 128 itself, else the byte minus 256 (negsuc n is the number -1 - n)
unfoldable pub signed_of : ℕ → ℤ
signed_of byte = cond (ltb byte 128) (pos byte) (negsuc (255 - byte))

-- the byte of a signed sample: from 0 up the sample itself, else the sample plus 256
unfoldable pub byte_of : ℤ → ℕ
byte_of (pos n) = n
byte_of (negsuc n) = 255 - n

-- sample k of a channel (1 to 4) of the stretch
abbrev pub sample_of : List ℕ → ℕ → ℕ → ℤ
sample_of stretch channel k = signed_of (get_or stretch (4 * k + (channel - 1)) 0)

-- the first n samples of a channel of the stretch
abbrev pub samples_of : List ℕ → ℕ → ℕ → List ℤ
samples_of stretch channel n = tab (sample_of stretch channel) 0 n

-- the samples of a channel that a stretch of so many bytes has and a buffer of so many places holds; none but of 1 to 4
abbrev pub channel_room : ℕ → ℕ → ℕ → ℕ
channel_room channel bytes places = cond (ltb channel 1 || ltb 4 channel) 0 (min (bytes / 4) places)

-- channel c (1 to 4) of the four
unfoldable pub channel_of : List ℤ → List ℤ → List ℤ → List ℤ → ℕ → List ℤ
channel_of one two three four c = cond (eqb c 1) one (cond (eqb c 2) two (cond (eqb c 3) three (cond (eqb c 4) four [])))

-- byte i of the samples of four channels: the channels in turn, so sample i / 4 of channel i % 4 + 1
abbrev pub interleaved_byte : List ℤ → List ℤ → List ℤ → List ℤ → ℕ → ℕ
interleaved_byte one two three four i = byte_of (get_or (channel_of one two three four (i % 4 + 1)) (i / 4) (pos 0))

-- the 4n bytes of the first n samples of four channels
unfoldable pub interleaved : ℕ → List ℤ → List ℤ → List ℤ → List ℤ → List ℕ
interleaved n one two three four = tab (interleaved_byte one two three four) 0 (4 * n)

-- the samples that a stretch has room for and every channel holds
abbrev pub set_room : List ℕ → List ℤ → List ℤ → List ℤ → List ℤ → ℕ
set_room stretch one two three four = min (length stretch / 4) (min (min (length one) (length two)) (min (length three) (length four)))

-- the stretch with those samples in it; bytes past them keep their contents
abbrev pub multiplexed : List ℕ → List ℤ → List ℤ → List ℤ → List ℤ → List ℕ
multiplexed stretch one two three four =
    interleaved (set_room stretch one two three four) one two three four ++ drop (4 * set_room stretch one two three four) stretch
