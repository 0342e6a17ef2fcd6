-- An accepted record of 1985 has at least 780 bytes, by one computed test over the table of rates. Assumes nothing.
use Prim.Native.Nat.{ℕ, ◌*◌, ◌≤◌}
use mathlib.Core.Path.{◌≡◌}
use mathlib.Core.Bool.{Bool, true, false, cond, ◌&&◌}
use mathlib.Core.List.{List, [], ◌∷◌}
use mathlib.Core.Logic.{⊎_elim}
use native.Mathlib.Omega.{arith}
use lib.Dec.{T, eqb, leb, leb→le}
use lib.ListN.{length}
use Rattle.lists.proofs.Truth.{left, right}
use Rattle.sample_rates.specs.declared.SampleRate.{SampleRate}
use Rattle.sample_rates.specs.Rates.{rates1985, line_in, rate_hz, words_a}
use Rattle.fields.specs.Field.{value_of}
use Rattle.header.specs.Edition.{edition_of, sample_rate}
use Rattle.editions.specs.Rates.{sample_rate_of}
use Rattle.record.specs.Record.{record_refusal}
use Rattle.record.proofs.Accepted.{record-facts}
use Rattle.listing.specs.Listing.{shortest_record}

-- the shorter of a line's two lengths, in bytes
abbrev long_line : SampleRate → Bool
long_line l = leb shortest_record (2 * words_a l)

abbrev long_lines : List SampleRate → Bool
long_lines [] = true
long_lines (l ∷ ls) = long_line l && long_lines ls

-- a rate that has a line in the table has a long one
long-in : (ls : List SampleRate) (hz : ℕ) → T (long_lines ls) → 1 ≤ rate_hz (line_in ls hz)
    → shortest_record ≤ 2 * words_a (line_in ls hz)
unfolding line_in
long-in [] hz t h = absurd (let z : ⊥ = omega arith in z)
long-in (l ∷ ls) hz t h = by-test (eqb l.hz hz) (long-in ls hz (right (long_line l) (long_lines ls) t)) h
  where
    by-test : (b : Bool) → (1 ≤ rate_hz (line_in ls hz) → shortest_record ≤ 2 * words_a (line_in ls hz))
        → 1 ≤ rate_hz (cond b l (line_in ls hz)) → shortest_record ≤ 2 * words_a (cond b l (line_in ls hz))
    by-test true rest p = leb→le shortest_record (2 * words_a l) (left (long_line l) (long_lines ls) t)
    by-test false rest p = rest p

-- the one computed test
rates-long : T (long_lines rates1985)
rates-long = tt

pub record-long : (b : List ℕ) → record_refusal 1985 b ≡ 0 → shortest_record ≤ length b
unfolding sample_rate_of edition_of
record-long b e =
    let f = record-facts 1985 b e in
    let l = f.line in
    let long = long-in rates1985 (value_of (sample_rate 1985) b) rates-long l.positive in
    ⊎_elim (λ p. omega (arith, p, f.words, l.shorter, l.longer, long)) (λ p. omega (arith, p, f.words, long)) f.size
