-- The blocks of a record, one after the other, and what they carry. Assumes nothing.
use Prim.Native.Nat.{ℕ, zero, suc, ◌*◌, ◌≤◌, ◌<◌}
use mathlib.Core.Path.{◌≡◌, refl, ap, sym, ◌∙◌}
use mathlib.Core.List.{List, ◌++◌}
use mathlib.Core.Logic.{⊎_elim}
use native.Mathlib.Nat.{mul-suc}
use native.Mathlib.Omega.{arith}
use lib.ListN.{length, take, drop, length-append, length-take, length-drop}
use lib.Seq.{ext_get_or, take_all, drop_at, take-append-le, drop-append-le, take-add, get_or-take, get_or-drop}
use Rattle.lists.proofs.Order.{le-or-lt}
use Rattle.block_check.specs.Check.{block_bytes, payload_bytes}
use Rattle.block_layout.specs.Layout.{payload_by, block_count, payload_length, payload_byte, block_of, blocks, number_of}
use Rattle.block_layout.specs.Carried.{block_at, length_in, payload_of, carried}
use Rattle.block_layout.proofs.Block.{length-layout, length-laid, payload-laid, length-payload, get_or-payload}

module _ (r : List ℕ) where
  pub length-block : (i : ℕ) → length (block_of r i) ≡ block_bytes
  length-block i = length-layout (number_of r) i (payload_length (length r) i) (payload_byte r i)

  pub length-blocks : (n : ℕ) → length (blocks r n) ≡ block_bytes * n
  unfolding blocks
  length-blocks zero = refl
  length-blocks (suc n) = omega (arith, length-append (blocks r n) (block_of r n), length-blocks n, length-block n)

  -- block i of them
  pub block_in : (n i : ℕ) → i < n → block_at (blocks r n) i ≡ block_of r i
  unfolding blocks block_at
  block_in zero i h = absurd (let z : ⊥ = omega arith in z)
  block_in (suc n) i h = ⊎_elim (λ p. before p (block_in n i p)) last (le-or-lt (suc i) n)
    where
      before : i < n → block_at (blocks r n) i ≡ block_of r i → block_at (blocks r (suc n)) i ≡ block_of r i
      before p so_far =
          ap (take block_bytes) (drop-append-le (block_bytes * i) (blocks r n) (block_of r n) (omega (arith, length-blocks n)))
          ∙ take-append-le block_bytes (drop (block_bytes * i) (blocks r n)) (block_of r n)
          (omega (arith, length-drop (block_bytes * i) (blocks r n), length-blocks n))
          ∙ so_far

      last : n < suc i → block_at (blocks r (suc n)) i ≡ block_of r i
      last p =
          let e : n ≡ i = omega arith in
          ap (take block_bytes) (drop_at (blocks r n) (block_of r n) (block_bytes * i) (omega (arith, length-blocks n, e)))
          ∙ take_all block_bytes (block_of r n) (omega (arith, length-block n))
          ∙ ap (block_of r) e

  -- what block i carries
  pub payload-block : (i : ℕ) → payload_of (block_of r i) ≡ take payload_bytes (drop (payload_bytes * i) r)
  payload-block i =
      (λ t. take (size t) (payload-laid (number_of r) i (payload_length (length r) i) (payload_byte r i) t))
      ∙ take-append-le (payload_length (length r) i) (payload_by (payload_byte r i)) _ (omega (arith, length-payload (payload_byte r i)))
      ∙ ext_get_or 0 (take (payload_length (length r) i) (payload_by (payload_byte r i))) (take payload_bytes (drop (payload_bytes * i) r))
      (simp (length-take, length-drop, length-payload) (omega arith))
      (λ k h.
      let q : k < payload_length (length r) i = omega (arith, length-take (payload_length (length r) i) (payload_by (payload_byte r i))) in
      get_or-take (payload_length (length r) i) (payload_by (payload_byte r i)) k 0 q
      ∙ get_or-payload (payload_byte r i) k (omega arith)
      ∙ sym (get_or-take payload_bytes (drop (payload_bytes * i) r) k 0 (omega arith) ∙ get_or-drop (payload_bytes * i) r k 0))
    where
      size : length_in (block_of r i) ≡ payload_length (length r) i
      size = length-laid (number_of r) i (payload_length (length r) i) (payload_byte r i) (omega arith)

  -- what the first i of n blocks carry, and what all of them do
  carried-blocks : (n i : ℕ) → i ≤ n → carried (blocks r n) i ≡ take (payload_bytes * i) r
  unfolding carried
  carried-blocks n zero h = refl
  carried-blocks n (suc i) h =
      (λ t. carried-blocks n i (omega arith) t ++ (ap payload_of (block_in n i h) ∙ payload-block i) t)
      ∙ sym (take-add (payload_bytes * i) payload_bytes r)
      ∙ ap (λ (m : ℕ). take m r) (sym (mul-suc payload_bytes i))

  pub carried-all : carried (blocks r (block_count (length r))) (block_count (length r)) ≡ r
  carried-all = carried-blocks (block_count (length r)) (block_count (length r)) (omega arith)
      ∙ take_all (payload_bytes * block_count (length r)) r (omega arith)
