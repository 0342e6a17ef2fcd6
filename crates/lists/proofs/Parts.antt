-- Parts of a list: one that is clipped to the list's end, and a buffer that is filled part by part from the front. Assumes nothing.
use Prim.Native.Nat.{ℕ, ◌+◌, ◌-◌, ◌≤◌, ◌<◌, min}
use mathlib.Core.Path.{◌≡◌, ap, sym, ◌∙◌}
use mathlib.Core.List.{List, ◌++◌, append_assoc}
use mathlib.Core.Logic.{⊎_elim}
use native.Mathlib.Omega.{arith}
use lib.ListN.{length, take, drop, length-append, length-drop, drop_of_length-le}
use lib.Seq.{take_all, take-nil, drop-length, take_at, drop_at, drop-drop}
use borrow.Rule.Slice.PartMut.{put_mid}
use Rattle.lists.proofs.Order.{le-or-lt}

-- from a on, n entries or as many as there are
pub clipped : (l : List ℕ) (a n : ℕ)
    → take (min (a + n) (length l) - min a (length l)) (drop (min a (length l)) l) ≡ take n (drop a l)
clipped l a n = ⊎_elim inside past (le-or-lt a (length l))
  where
    inside : a ≤ length l → take (min (a + n) (length l) - min a (length l)) (drop (min a (length l)) l) ≡ take n (drop a l)
    inside h =
        let first : min a (length l) ≡ a = omega arith in
        ap (λ (s : ℕ). take (min (a + n) (length l) - s) (drop s l)) first
        ∙ ⊎_elim
        (λ k. let count : min (a + n) (length l) - a ≡ n = omega arith in ap (λ (m : ℕ). take m (drop a l)) count)
        (λ k.
        take_all (min (a + n) (length l) - a) (drop a l) (omega (arith, length-drop a l))
        ∙ sym (take_all n (drop a l) (omega (arith, length-drop a l))))
        (le-or-lt (a + n) (length l))

    past : length l < a → take (min (a + n) (length l) - min a (length l)) (drop (min a (length l)) l) ≡ take n (drop a l)
    past h =
        let first : min a (length l) ≡ length l = omega arith in
        ap (λ (s : ℕ). take (min (a + n) (length l) - s) (drop s l)) first
        ∙ ap (take (min (a + n) (length l) - length l)) (drop-length l)
        ∙ take-nil (min (a + n) (length l) - length l)
        ∙ sym (ap (take n) (drop_of_length-le l {i = a} (omega arith)) ∙ take-nil n)

-- a buffer whose first m entries are x, with y in the place of the k after them
pub part-after : (x y old : List ℕ) (m k : ℕ) → length x ≡ m → put_mid m k (x ++ drop m old) y ≡ (x ++ y) ++ drop (m + k) old
part-after x y old m k e =
    (λ t. take_at x (drop m old) m e t ++ (y ++ (ap (drop k) (drop_at x (drop m old) m e) ∙ drop-drop k m old) t))
    ∙ sym (append_assoc x y (drop (m + k) old))

pub length_front : (x old : List ℕ) (m : ℕ) → length x ≡ m → m ≤ length old → length (x ++ drop m old) ≡ length old
length_front x old m e h = omega (arith, length-append x (drop m old), length-drop m old, e)
