-- A record of 1985 whose monitor words bear their own numbers, so that an answer shows which words it is. FORMAT, "Monitor
-- segments".
use Rattle.std.specs.Prelude.{ℕ, zero, suc, List, [], ◌∷◌, ◌++◌}
use Rattle.worked_cases.specs.Bytes.{◌is◌, bytes_from}
use Rattle.worked_cases.specs.Cases.{case_words}

-- n words as bytes, of which the first holds w in its second byte and each other one more; the first byte is 254, so that the
-- status, the first monitor word, says of all seven segments that they are new
abbrev pub words_from : ℕ → ℕ → List ℕ
words_from w zero = []
words_from w (suc n) = 254 ∷ w ∷ words_from (suc w) n

-- header and samples of the lister's case, of 395 words here: 150 monitor words follow word 240, and five words of offsets
abbrev pub before_monitor : List ℕ
before_monitor = bytes_from (3 is 395 ∷ case_words) 1 240

abbrev pub numbered : List ℕ
numbered = before_monitor ++ words_from 1 155
