-- The parts of a block, stored in turn. Assumes nothing.
use Prim.Native.Nat.{ℕ, ◌+◌, ◌-◌, ◌≤◌, ◌<◌, min}
use mathlib.Core.Path.{◌≡◌, refl, ap, sym, ◌∙◌}
use mathlib.Core.List.{List, [], ◌++◌, append-nil}
use mathlib.Core.Logic.{⊎_elim}
use native.Mathlib.Omega.{arith}
use lib.ListN.{length, get_or, take, drop, replicate, length-append, length-take, length-drop, length-replicate, drop_of_length-le, get_or-append, get_or-replicate, get_or-eq_default}
use lib.Seq.{take_at, drop_at, get_or-append-add, get_or-take}
use borrow.Rule.Slice.PartMut.{put_mid, post_of}
use Rattle.lists.proofs.Order.{le-or-lt}
use Rattle.lists.proofs.Parts.{part-after}
use Rattle.block_check.specs.Check.{block_bytes, payload_bytes, covered, check_of}
use Rattle.block_layout.specs.Layout.{word_bytes, payload_by, body_of, layout}
use Rattle.block_layout.proofs.Block.{payload-ext, length-body, check-front}

-- ## a payload: the bytes that are used, then zeros

-- a part after its first u bytes and then the k after them were stored
pub payload-stored : (old rest : List ℕ) (u k : ℕ) → u ≡ min payload_bytes (length rest) → length old ≤ u + k
    → put_mid u k (take u rest ++ drop u old) (replicate (payload_bytes - u) 0) ≡ payload_by (λ j. get_or rest j 0)
payload-stored old rest u k few far =
    part-after x zeros old u k size ∙ ap (λ (l : List ℕ). (x ++ zeros) ++ l) (drop_of_length-le old {i = u + k} (omega arith))
    ∙ append-nil (x ++ zeros)
    ∙ payload-ext (λ j. get_or rest j 0) (x ++ zeros) (omega (arith, length-append x zeros, size, length-replicate {A = ℕ} (payload_bytes - u) 0, few))
    (λ j h. ⊎_elim (λ p. unused j p h) (λ p. get_or-append x zeros 0 j (omega (arith, size)) ∙ get_or-take u rest j 0 p) (le-or-lt u j))
  where
    x : List ℕ
    x = take u rest

    zeros : List ℕ
    zeros = replicate (payload_bytes - u) 0

    size : length x ≡ u
    size = omega (arith, length-take u rest, few)

    unused : (j : ℕ) → u ≤ j → j < payload_bytes → get_or (x ++ zeros) j 0 ≡ get_or rest j 0
    unused j p h =
        ap (λ (m : ℕ). get_or (x ++ zeros) m 0) (let e : j ≡ length x + (j - u) = omega (arith, size) in e)
        ∙ get_or-append-add x zeros (j - u) 0 ∙ get_or-replicate (payload_bytes - u) (j - u) 0 0 (omega arith)
        ∙ sym (get_or-eq_default rest 0 {n = j} (omega (arith, few)))

-- ## a block: the three words and the payload, then the check

-- the words and the payload in turn: the body, and what is left of the buffer
unfoldable pub stored : List ℕ → List ℕ → List ℕ → List ℕ → List ℕ → List ℕ
stored old number index bytes payload =
    put_mid 6 payload_bytes (put_mid 4 2 (put_mid 2 2 (number ++ post_of 0 2 old) index) bytes) payload

after : List ℕ → List ℕ
after old = drop payload_bytes (drop 2 (drop 2 (drop 2 old)))

body-stored : (old : List ℕ) (n i l : ℕ) (f : ℕ → ℕ)
    → stored old (word_bytes n) (word_bytes i) (word_bytes l) (payload_by f) ≡ body_of n i l f ++ after old
unfolding stored body_of after
body-stored old n i l f = refl

-- and the check after them
check-stored : (old w : List ℕ) (n i l : ℕ) (f : ℕ → ℕ) → length old ≡ block_bytes
    → put_mid covered 2 (body_of n i l f ++ after old) w ≡ body_of n i l f ++ w
unfolding after
check-stored old w n i l f e =
    let b = body_of n i l f in
    let z : drop 2 (after old) ≡ [] =
    drop_of_length-le (after old) {i = 2} (simp length-drop (omega (arith, e))) in
    (λ t. take_at b (after old) covered (length-body n i l f) t ++ (w ++ drop 2 (drop_at b (after old) covered (length-body n i l f) t)))
    ∙ (λ t. b ++ (w ++ z t)) ∙ ap (λ (x : List ℕ). b ++ x) (append-nil w)

module _ (old number index bytes payload check : List ℕ) (n i l : ℕ) (f : ℕ → ℕ) (whole : length old ≡ block_bytes)
    (en : number ≡ word_bytes n) (ei : index ≡ word_bytes i) (el : bytes ≡ word_bytes l) (ep : payload ≡ payload_by f) where
  pub block-stored : check ≡ word_bytes (check_of (stored old number index bytes payload))
      → put_mid covered 2 (stored old number index bytes payload) check ≡ layout n i l f
  unfolding layout
  block-stored ec =
      let b = body_of n i l f in
      let s : stored old number index bytes payload ≡ b ++ after old =
      (λ t. stored old (en t) (ei t) (el t) (ep t)) ∙ body-stored old n i l f in
      (λ t. put_mid covered 2 (s t) (ec t)) ∙ check-stored old _ n i l f whole
      ∙ ap (λ (c : ℕ). b ++ word_bytes c) (ap check_of s ∙ check-front n i l f (after old))
