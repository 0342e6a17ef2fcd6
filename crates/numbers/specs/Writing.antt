-- A text written into a lent buffer from a place on, as far as the buffer goes.
use Rattle.std.specs.Prelude.{◌≡◌, List, ℕ, ◌+◌, ◌-◌, ◌≤◌, min, length}
use Rattle.std.proofs.lemmas.List.Edits.{sets}

-- there is room for the text from a place of the buffer on
pub record Room (out : List ℕ) (at : ℕ) (text : List ℕ) : Type 0 where
  pub enough : at + length text ≤ length out

-- the place behind n bytes from a place on, or behind as many as lie before the end of a buffer of `size` bytes
abbrev pub place_behind : ℕ → ℕ → ℕ → ℕ
place_behind size at n = at + min n (size - at)

-- The text stands in the buffer from a place on, nothing else has changed, and the next place is the one after the text. Of a
-- text that goes past the end, only what lies before the end is written (`sets` stores nothing past it), and the next place is
-- behind that.
pub record Written (before : List ℕ) (at : ℕ) (text : List ℕ) (next : ℕ) (after : List ℕ) : Type 0 where
  pub place : next ≡ place_behind (length before) at (length text)
  pub buffer : after ≡ sets before at text
