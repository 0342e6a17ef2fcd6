-- What a call answers that gives bytes into a lent buffer, and the buffer after it: export, of one block too, and import. FORMAT,
-- "Blocks".
use Rattle.std.specs.Prelude.{ℕ, cond, List, ◌++◌, eqb, length, drop}
use Rattle.answers.specs.Answer.{Answer, unless}

-- how many bytes are given, or the refusal
abbrev pub length_answer : ℕ → List ℕ → Answer ℕ
length_answer refusal bytes = unless refusal 0 (length bytes)

-- the bytes stand at the front of the buffer, which keeps its contents past them; a refusal changes nothing
abbrev pub buffer_after : ℕ → List ℕ → List ℕ → List ℕ
buffer_after refusal bytes out = cond (eqb refusal 0) (bytes ++ drop (length bytes) out) out
