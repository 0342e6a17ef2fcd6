-- A format as a table of fields: what it reads and writes, and the one test that makes a table sound.
use Rattle.std.specs.Prelude.{ℕ, suc, ◌+◌, ◌≤◌, ◌<◌, Bool, true, false, cond, ◌&&◌, ◌||◌, List, [], ◌∷◌, ◌⊎◌, leb, eqb, get_or}
use Rattle.fields.specs.declared.Field.{Field}
use Rattle.fields.specs.Field.{start, bit_width, value_of, with_value, digits_good, readable, whole_digits}

-- what the fields hold, in the table's order
abbrev pub read_all : List Field → List ℕ → List ℕ
read_all [] b = []
read_all (f ∷ fs) b = value_of f b ∷ read_all fs b

-- the place of a field in a table, counted from 0, by its first bit: in a sound table no two fields that have bits share one
abbrev pub place_of : List Field → Field → ℕ
place_of [] f = 0
place_of (g ∷ gs) f = cond (eqb (start g) (start f)) 0 (suc (place_of gs f))

-- of values in the table's order, the one of the field f
abbrev pub value_in : List Field → List ℕ → Field → ℕ
value_in t v f = get_or v (place_of t f) 0

-- the bytes b with the values put into the fields
abbrev pub write_all : List Field → List ℕ → List ℕ → List ℕ
write_all [] vs b = b
write_all (f ∷ fs) [] b = b
write_all (f ∷ fs) (v ∷ vs) b = write_all fs vs (with_value f v b)

-- every digit of every decimal field is at most 9
abbrev pub all_digits_good : List Field → List ℕ → Bool
all_digits_good [] b = true
all_digits_good (f ∷ fs) b = digits_good f b && all_digits_good fs b

-- every value fits its field: the decimal ones, and the binary ones; a value for each field
abbrev pub all_fit : (Field → ℕ → Bool) → List Field → List ℕ → Bool
all_fit fits [] [] = true
all_fit fits [] (v ∷ vs) = false
all_fit fits (f ∷ fs) [] = false
all_fit fits (f ∷ fs) (v ∷ vs) = fits f v && all_fit fits fs vs

-- two fields share no bit
abbrev pub apart : Field → Field → Bool
apart f g = leb (start f + bit_width f) (start g) || leb (start g + bit_width g) (start f)

abbrev pub all_apart : Field → List Field → Bool
all_apart f [] = true
all_apart f (g ∷ gs) = apart f g && all_apart f gs

-- the one test of a table: each field is readable, has whole digits and is within the first n bits, and no two share a bit
abbrev pub sound : ℕ → List Field → Bool
sound n [] = true
sound n (f ∷ fs) = (readable f && whole_digits f) && (leb (start f + bit_width f) n && (all_apart f fs && sound n fs))

-- bit i of the header belongs to no field of the table
abbrev pub unnamed : ℕ → List Field → Type 0
unnamed i [] = Unit
unnamed i (f ∷ fs) = ((i < start f) ⊎ (start f + bit_width f ≤ i)) × unnamed i fs

-- no field of the table has a bit of the header from bit `first` up to bit `end`
abbrev pub no_field : ℕ → ℕ → List Field → Bool
no_field first end [] = true
no_field first end (f ∷ fs) = (leb (start f + bit_width f) first || leb end (start f)) && no_field first end fs
