-- The loop that stores the bytes of a number, the last first: the invariant is `Stored`, and the part of the number that is left.
use mathlib.Core.Path.{◌≡◌, ◌∙◌, ap, sym, subst}
use mathlib.Core.List.{List}
use Prim.Native.Nat.{ℕ, ◌-◌, ◌+◌, ◌*◌, ◌/◌, ◌%◌, ◌^◌}
use native.Mathlib.Omega.{arith}
use borrow.Author.Rules.{rules}
use Rattle.bits.specs.Steps.{Stored}
use Rattle.bits.proofs.Writing.{stored-none, stored_more, rest-whole, rest-less}
use Rattle.bits.proofs.store.Goals as goal

pub loop-k-init : goal.loop-k-init
loop-k-init c = (rest-whole _ _ _ (search rules), stored-none _ _ _ _ _ (search rules))

pub loop-k-preserved : goal.loop-k-preserved
loop-k-preserved c =
    let a = c.args in
    let x = a.x in
    let n = a.n in
    let k = c.loop-k.k in
    let back : k ≡ k - 1 + 1 = omega arith in
    let place : n - k ≡ n - 1 - (k - 1) = omega arith in
    let byte =
    c.narrow.ensures ∙ ap (λ (z : ℕ). z % 256) c.loop-k.invariant.0 ∙ ap (λ (z : ℕ). x / 2 ^ (8 * z) % 256) place in (
      ap (λ (z : ℕ). z / 256) c.loop-k.invariant.0 ∙ rest-less x n k (search rules) (search rules),
      subst (λ (z : List ℕ). Stored a.from n x (k - 1) a.bytes.now z) (sym c.set_byte.ensures)
          (stored_more a.from n x (k - 1) c.narrow.result a.bytes.now c.loop-k.bytes (omega arith) byte
          (subst (λ (z : ℕ). Stored a.from n x z a.bytes.now c.loop-k.bytes) back c.loop-k.invariant.1)),
    )

pub shape_of-bytes : goal.shape_of-bytes
shape_of-bytes c = c.loop-k.invariant.1.same

pub returns : goal.returns
returns c =
    let a = c.args in
    let e : c.loop-k.k ≡ 0 = omega arith in
    subst (λ (z : ℕ). Stored a.from a.n a.x z a.bytes.now c.loop-k.bytes) e c.loop-k.invariant.1
