use Prim.Native.Nat.{ℕ, ◌+◌, ◌-◌, ◌%◌, ◌^◌, ◌≤◌, ◌<◌}
use mathlib.Core.Path.{◌≡◌, ap, sym, subst, ◌∙◌}
use native.Mathlib.Omega.{arith}
use native.Mathlib.Nat.{mod-lt}
use borrow.Author.Rules.{rules}
use Rattle.bits.specs.Bits.{widest}
use Rattle.signed.specs.Signed.{signed_value}
use Rattle.signed.proofs.Codes.{value_by, lower, upper, few-codes}
use Rattle.signed.proofs.value_of.Goals as goal

-- by the number of codes p of a width w
shown : (code p v w : ℕ) → p ≡ 2 ^ v → v ≡ w → value_by p (2 ^ 64) (code % p) ≡ signed_value w (code % 2 ^ w)
shown code p v w e f = ap (λ (z : ℕ). value_by z (2 ^ 64) (code % z)) e ∙ ap (λ (z : ℕ). signed_value z (code % 2 ^ z)) f

few : (p v : ℕ) → p ≡ 2 ^ v → v ≤ widest → p < 2 ^ 64
few p v e h = subst (λ (z : ℕ). z < 2 ^ 64) (sym e) (few-codes v h)

pub returns-then-low-codes : goal.returns-then-low-codes
returns-then-low-codes c =
    let code = c.args.code in
    let p = c.code_count-codes.result in
    sym (lower p (2 ^ 64) (code % p) c.if-low-codes.true)
    ∙ shown code p c.new.result.bits _ c.code_count-codes.ensures.0 c.new.ensures

pub overflow_add-result-2 : goal.overflow_add-result-2
overflow_add-result-2 c =
    let h : c.code_count-codes.result < 2 ^ 64 = few c.code_count-codes.result c.new.result.bits c.code_count-codes.ensures.0 (search rules) in
    record { fits = omega (arith, h, mod-lt c.args.code c.code_count-codes.ensures.1) }

pub returns : goal.returns
returns c =
    let code = c.args.code in
    let p = c.code_count-codes.result in
    let h : p < 2 ^ 64 = few p c.new.result.bits c.code_count-codes.ensures.0 (search rules) in
    let e : 2 ^ 64 - 1 - p + 1 ≡ 2 ^ 64 - p = omega (arith, h) in
    ap (λ (z : ℕ). code % p + z) e
    ∙ sym (upper p (2 ^ 64) (code % p) (omega (arith, c.if-low-codes.false)))
    ∙ shown code p c.new.result.bits _ c.code_count-codes.ensures.0 c.new.ensures
