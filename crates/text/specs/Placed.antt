-- A text put at a place of a lent buffer: the answer, and the buffer after it. FORMAT, "Refusal numbers".
use Rattle.std.specs.Prelude.{cond, List, [], ◌∷◌, ◌++◌, ℕ, ◌+◌, eqb, ltb, length, take, drop}
use Rattle.answers.specs.Answer.{Answer, unless}
use Rattle.answers.specs.Refusal.{◌when◌, first}

-- 21: the buffer holds fewer bytes than the text has, from the place on
unfoldable pub refusal_at : List ℕ → ℕ → List ℕ → ℕ
refusal_at out at text = first (21 when ltb (length out) (at + length text) ∷ [])

-- the place behind the text, or 21
abbrev pub answer_at : List ℕ → ℕ → List ℕ → Answer ℕ
answer_at out at text = unless (refusal_at out at text) 0 (at + length text)

-- the buffer with the text from the place on; a refusal leaves it as it was
abbrev pub buffer_at : List ℕ → ℕ → List ℕ → List ℕ
buffer_at out at text = cond (eqb (refusal_at out at text) 0) (take at out ++ text ++ drop (at + length text) out) out
