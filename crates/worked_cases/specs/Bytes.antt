-- Records for the worked values: a run of words, zero but for those that are named.
use Rattle.std.specs.Prelude.{ℕ, zero, suc, ◌/◌, ◌%◌, cond, List, [], ◌∷◌, eqb}

-- a word, counted from 1, and what it holds
pub record Word : Type 0 where
  pub place : ℕ
  pub holds : ℕ

infixl 70 ◌is◌
abbrev pub ◌is◌ : ℕ → ℕ → Word
p is v = record { place = p; holds = v }

abbrev pub word_at : List Word → ℕ → ℕ
word_at [] p = 0
word_at (w ∷ ws) p = cond (eqb w.place p) w.holds (word_at ws p)

-- n words from word p on, as bytes
abbrev pub bytes_from : List Word → ℕ → ℕ → List ℕ
bytes_from ws p zero = []
bytes_from ws p (suc n) = (word_at ws p / 256 % 256) ∷ (word_at ws p % 256) ∷ bytes_from ws (suc p) n
