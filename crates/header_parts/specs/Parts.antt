-- Parts of a table of fields, and of a list of values: what the code reads, writes and judges of a few rows.
use Rattle.std.specs.Prelude.{ℕ, zero, suc, ◌+◌, Bool, ◌&&◌, List, [], ◌∷◌, get_or, set}
use Rattle.fields.specs.declared.Field.{Field}
use Rattle.fields.specs.Field.{read_value, write_value, fits_binary}

-- the n items of a list from place k on, d for those past its end; and of a list of values
abbrev pub items : {A : Type 0} → A → ℕ → ℕ → List A → List A
items d k zero l = []
items d k (suc n) l = get_or l k d ∷ items d (suc k) n l

abbrev pub cells : ℕ → ℕ → List ℕ → List ℕ
cells k n v = items 0 k n v

-- the n values of p from place k on, put into v, the first of p at place `at`
abbrev pub placed : ℕ → ℕ → ℕ → List ℕ → List ℕ → List ℕ
placed k zero at p v = v
placed k (suc n) at p v = placed (suc k) n at p (set v (at + k) (get_or p k 0))

-- what the rows hold in the bytes b, of a row that is not readable 0
abbrev pub rows_read : List Field → List ℕ → List ℕ
rows_read [] b = []
rows_read (f ∷ fs) b = read_value f b ∷ rows_read fs b

-- the bytes b with the values put into the rows, but for those that are not readable
abbrev pub rows_written : List Field → List ℕ → List ℕ → List ℕ
rows_written [] vs b = b
rows_written (f ∷ fs) [] b = b
rows_written (f ∷ fs) (v ∷ vs) b = rows_written fs vs (write_value f v b)

-- the values of v from place `at` on fit the rows, if those are binary, and the rest fits
abbrev pub rows_fit : List Field → ℕ → List ℕ → Bool → Bool
rows_fit [] at v rest = rest
rows_fit (f ∷ fs) at v rest = fits_binary f (get_or v at 0) && rows_fit fs (suc at) v rest
