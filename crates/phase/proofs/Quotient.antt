-- A count over a power of two as a 64-bit float: the conversions and the division lose nothing. Over the number k of fraction
-- bits. Assumes nothing.
use mathlib.Core.Path.{◌≡◌, sym, ap, ◌∙◌, subst}
use mathlib.Core.Bool.{false}
use mathlib.Core.Logic.{⊎_elim}
use Prim.Native.Nat.{ℕ, ◌+◌, ◌-◌, ◌*◌, ◌^◌, ◌≤◌, ◌<◌}
use native.Mathlib.Nat.{mul_assoc, lt_of_lt_of_le}
use native.Mathlib.Omega.{arith}
use lib.IntN.{pos}
use lib.Pow.{pow-add, pow_pos, pow_mono, shl_lt}
use lib.Ieee.{Float, binary64, of_int, div}
use lib.Ieee.Exact.{HasValue, round_exact}
use lib.Ieee.Digits.{back}
use Rattle.std.proofs.lemmas.Bool.{cases_lt}
use Rattle.floats.specs.Whole.{exact_limit, quotient_of}
use Rattle.floats.proofs.Quotient.{whole-quotient}
use Rattle.phase.specs.Phase.{phase_of, InCycles}

-- the float nearest to n / 2 ^ k is n / 2 ^ k
pub exact : (k n : ℕ) → k ≤ 1074 → n < exact_limit → HasValue (phase_of k n) false n (2 ^ k)
unfolding phase_of quotient_of
exact k n hk hn =
    round_exact binary64 false n (2 ^ k) n (1074 - k) (pow_pos k) hn
    (lt_of_lt_of_le (shl_lt 53 (1074 - k) hn) (pow_mono {i = 53 + (1074 - k)} {j = 2098} (omega arith)))
    (ap (λ (z : ℕ). n * 2 ^ z) (sym (back 1074 k hk)) ∙ ap (λ (z : ℕ). n * z) (pow-add 2 (1074 - k) k)
    ∙ sym (mul_assoc n (2 ^ (1074 - k)) (2 ^ k)))

-- a divisor of 32 bits has fewer of them
few : (k : ℕ) → 2 ^ k < 2 ^ 32 → k ≤ 32
few k h = ⊎_elim (λ p. omega arith) (λ p. absurd (omega (arith, pow_mono {i = 32} {j = k} p))) (cases_lt k 32)

-- what the code works out is the definition, and that is exact, for a count of 48 bits and a divisor of 32
pub of-count : (k p n : ℕ) → p ≡ 2 ^ k → p < 2 ^ 32 → n < 2 ^ 48
    → InCycles k n (div binary64 (of_int binary64 (pos n)) (of_int binary64 (pos p)))
unfolding phase_of
of-count k p n e hp hn =
    let few-bits = few k (subst (λ (d : ℕ). d < 2 ^ 32) e hp) in
    let some : 0 < p = subst (λ (d : ℕ). 0 < d) (sym e) (pow_pos k) in
    let q : div binary64 (of_int binary64 (pos n)) (of_int binary64 (pos p)) ≡ phase_of k n =
    whole-quotient (pos n) p (omega arith) some (omega arith) ∙ ap (quotient_of (pos n)) e in
    (q, subst (λ (x : Float). HasValue x false n (2 ^ k)) (sym q) (exact k n (omega (arith, few-bits)) (omega arith)))
