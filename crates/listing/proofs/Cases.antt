-- The listing in the cases that FORMAT names: an empty input, which gives the header line only; an input that is too long; and
-- a reel of accepted records, each of which has its line. Assumes nothing.
use Prim.Native.Nat.{ℕ, ◌≤◌, ◌<◌}
use mathlib.Core.Path.{◌≡◌, refl, ap, ◌∙◌}
use mathlib.Core.Bool.{Bool, cond}
use mathlib.Core.List.{List, [], ◌++◌, append-nil, flatten}
use lib.ListN.{length}
use borrow.Author.Tests.{lt-ltb, le-ltb}
use Rattle.reel.specs.Reel.{step_at}
use Rattle.reel.specs.Walk.{walk, walk_from, AllAccepted}
use Rattle.reel.proofs.Walk.{records-handed}
use Rattle.text.specs.Text.{header_line, refused_line}
use Rattle.listing.specs.Listing.{longest_input, record_texts, last_text, walk_text, listing}

pub empty-input : listing [] ≡ header_line
unfolding listing walk walk_from step_at record_texts
empty-input = append-nil header_line

-- by whether the input is too long
pub too_long : (input : List ℕ) → longest_input < length input → listing input ≡ header_line ++ refused_line 24
unfolding listing
too_long input h =
    ap (λ (t : Bool). header_line ++ cond t (refused_line 24) (walk_text (walk 1985 input))) (lt-ltb longest_input (length input) h)

pub not-too-long : (input : List ℕ) → length input ≤ longest_input → listing input ≡ header_line ++ walk_text (walk 1985 input)
unfolding listing
not-too-long input h =
    ap (λ (t : Bool). header_line ++ cond t (refused_line 24) (walk_text (walk 1985 input))) (le-ltb longest_input (length input) h)

pub accepted-reel : (bs : List (List ℕ)) → AllAccepted 1985 bs → length (flatten bs) ≤ longest_input
    → listing (flatten bs) ≡ header_line ++ record_texts bs
accepted-reel bs t h =
    let handed = records-handed 1985 refl bs t in
    not-too-long (flatten bs) h
    ∙ (λ i. header_line ++ (record_texts (handed.0 i) ++ last_text (handed.1 i)))
    ∙ ap (λ (l : List ℕ). header_line ++ l) (append-nil (record_texts bs))
