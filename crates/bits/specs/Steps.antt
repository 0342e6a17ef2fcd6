-- What the steps of the writing leaf do, for their contracts: nothing of the format.
use Rattle.std.specs.Prelude.{ℕ, ◌+◌, ◌-◌, ◌*◌, ◌/◌, ◌%◌, ◌^◌, ◌≤◌, ◌<◌, ◌≡◌, List, ◌⊎◌, length, get_or}

-- the bytes c are the bytes b with those from place m on, of the n bytes from a on, made of x
pub record Stored (a n x m : ℕ) (b c : List ℕ) : Type 0 where
  pub same : length c ≡ length b
  pub inside : (k : ℕ) → m ≤ k → k < n → a + k < length b → get_or c (a + k) 0 ≡ x / 2 ^ (8 * (n - 1 - k)) % 256
  pub outside : (i : ℕ) → (i < a + m) ⊎ (a + n ≤ i) → get_or c i 0 ≡ get_or b i 0

-- a window with w bits, of which t more follow, replaced by those of v
unfoldable pub mix : ℕ → ℕ → ℕ → ℕ → ℕ
mix x t w v = (x / 2 ^ (t + w) * 2 ^ w + v % 2 ^ w) * 2 ^ t + x % 2 ^ t
