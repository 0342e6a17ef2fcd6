-- A test of each entry of a list, and of each number below n, as `all` makes it. Assumes nothing.
use Prim.Native.Nat.{ℕ, zero, suc, ◌≤◌, ◌<◌}
use mathlib.Core.Path.{◌≡◌, refl, ap, sym, ◌∙◌}
use mathlib.Core.Bool.{Bool, ◌&&◌}
use mathlib.Core.List.{List}
use native.Mathlib.Numerals.{add-one}
use native.Mathlib.Omega.{arith}
use lib.ListN.{length, get_or, take}
use lib.Seq.{take_all}
use Rattle.std.specs.List.{range_with_len, list_all}
use Rattle.std.proofs.lemmas.List.FromFn.{length-range_with_len, get_or-range_with_len}
use Rattle.std.proofs.lemmas.List.Folds.{list_all_more}
use Rattle.lists.specs.Tests.{all_to}

-- of the first n entries, by their places
pub listed : (test : ℕ → Bool) (l : List ℕ) (n : ℕ) → n ≤ length l → list_all test (take n l) ≡ all_to (λ k. test (get_or l k 0)) n
unfolding all_to
listed test l zero h = refl
listed test l (suc n) h =
    ap (λ (m : ℕ). list_all test (take m l)) (sym (add-one n)) ∙ list_all_more test l n 0 (omega arith)
    ∙ ap (λ (t : Bool). t && test (get_or l n 0)) (listed test l n (omega arith))

-- of the numbers below n
same-tests : (f g : ℕ → Bool) (n : ℕ) → ((k : ℕ) → k < n → f k ≡ g k) → all_to f n ≡ all_to g n
unfolding all_to
same-tests f g zero h = refl
same-tests f g (suc n) h = λ t. same-tests f g n (λ k p. h k (omega arith)) t && h n (omega arith) t

pub ranged : (test : ℕ → Bool) (n : ℕ) → list_all test (range_with_len 0 n) ≡ all_to test n
ranged test n =
    let l = range_with_len 0 n in
    let size : length l ≡ n = length-range_with_len 0 n in
    ap (list_all test) (sym (take_all n l (omega (arith, size)))) ∙ listed test l n (omega (arith, size))
    ∙ same-tests (λ k. test (get_or l k 0)) test n
    (λ k h. ap test (let e : get_or l k 0 ≡ k = omega (arith, get_or-range_with_len 0 n k 0 h) in e))
