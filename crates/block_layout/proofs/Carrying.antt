-- Blocks that pass 27 and 28 are those of the record that they carry. Assumes nothing.
use Prim.Native.Nat.{ℕ, zero, suc, ◌+◌, ◌-◌, ◌*◌, ◌/◌, ◌%◌, ◌≤◌, ◌<◌}
use mathlib.Core.Path.{◌≡◌, refl, ap, sym, ◌∙◌}
use mathlib.Core.List.{List, ◌++◌}
use mathlib.Core.Logic.{⊎_elim}
use native.Mathlib.Nat.{mul-suc}
use native.Mathlib.Omega.{arith}
use lib.Dec.{T}
use lib.ListN.{length, get_or, take, drop, length-append, length-take, length-drop, get_or-append, get_or-eq_default}
use lib.Seq.{ext_get_or, take_all, take-add, get_or-append-add, get_or-take, get_or-drop}
use borrow.Author.Tests.{eqb-true}
use Rattle.lists.proofs.Order.{le-or-lt}
use Rattle.lists.proofs.Truth.{holds}
use Rattle.block_check.specs.Check.{block_bytes, payload_bytes, passes}
use Rattle.block_check.proofs.Changed.{Passes}
use Rattle.lists.proofs.Tests.{each_to}
use Rattle.block_layout.specs.Layout.{block_count, payload_length, payload_byte, block_of, blocks, exported_of, number_of}
use Rattle.block_layout.specs.Carried.{whole_blocks, block_at, number_in, length_in, payload_of, carried, carried_of}
use Rattle.block_layout.specs.Refusals.{checks_pass, right_number, blocks_right}
use Rattle.block_layout.proofs.Block.{block_fixed}
use Rattle.block_layout.proofs.BlockAt.{length_at, byte_at, small_at}
use Rattle.block_layout.proofs.Right.{Right, RightBlocks, blocks-from-test}

-- its payload
module _ (b : List ℕ) (whole : length b ≡ block_bytes) {number n i : ℕ} (r : Right number n i b) where
  pub length-payload : length (payload_of b) ≡ length_in b
  length-payload = simp (length-take, length-drop) (omega (arith, whole, r.sized.most))

  pub payload-byte : (k : ℕ) → k < payload_bytes → get_or (payload_of b) k 0 ≡ get_or b (6 + k) 0
  payload-byte k h =
      ⊎_elim
      (λ p. get_or-eq_default (payload_of b) 0 {n = k} (omega (arith, length-payload)) ∙ sym (r.zeros k p h))
      (λ p. get_or-take (length_in b) (drop 6 b) k 0 p ∙ get_or-drop 6 b k 0)
      (le-or-lt (length_in b) k)

module _ (s : List ℕ) (bytes : (k : ℕ) → get_or s k 0 < 256) (pass : T (checks_pass s)) (fine : T (blocks_right s)) where
  abbrev n : ℕ
  n = whole_blocks s

  blocks-fine : RightBlocks s
  blocks-fine = blocks-from-test s fine

  pub some : 1 ≤ n
  some = blocks-fine.some

  pub whole : length s ≡ block_bytes * n
  whole = blocks-fine.whole

  pub right-at : (i : ℕ) → i < n → Right (right_number s) n i (block_at s i)
  right-at = blocks-fine.each

  passes_at : (i : ℕ) → i < n → Passes (block_at s i)
  unfolding checks_pass
  passes_at i h = eqb-true _ _ (holds _ (each_to (λ (i : ℕ). passes (block_at s i)) n i h pass))

  -- the blocks before the last are full
  pub length-carried : (i : ℕ) → i < n → length (carried s i) ≡ payload_bytes * i
  unfolding carried
  length-carried zero h = refl
  length-carried (suc i) h =
      omega (
        arith,
        length-append (carried s i) (payload_of (block_at s i)),
        length-carried i (omega arith),
        length-payload (block_at s i) (length_at s i (omega arith)) (right-at i (omega arith)),
        (right-at i (omega arith)).sized.full (omega arith),
      )

  -- byte k of the payload of block i, where the first m blocks are carried
  pub carried-byte : (m i k : ℕ) → m ≤ n → i < m → k < payload_bytes → get_or (carried s m) (payload_bytes * i + k) 0 ≡ get_or (block_at s i) (6 + k) 0
  unfolding carried
  carried-byte zero i k hm hi hk = absurd (let z : ⊥ = omega arith in z)
  carried-byte (suc m) i k hm hi hk =
      ⊎_elim
      (λ p.
      get_or-append (carried s m) (payload_of (block_at s m)) 0 (payload_bytes * i + k) (omega (arith, length-carried m hm))
      ∙ carried-byte m i k (omega arith) p hk)
      (λ p.
      let e : i ≡ m = omega arith in
      ap (λ (j : ℕ). get_or (carried s m ++ payload_of (block_at s m)) (j + k) 0)
      (let q : payload_bytes * i ≡ length (carried s m) = omega (arith, length-carried m hm, e) in q)
      ∙ get_or-append-add (carried s m) (payload_of (block_at s m)) k 0
      ∙ payload-byte (block_at s m) (length_at s m hm) (right-at m hm) k hk
      ∙ ap (λ (j : ℕ). get_or (block_at s j) (6 + k) 0) (sym e))
      (le-or-lt (suc i) m)

  -- the last block
  abbrev last : ℕ
  last = n - 1

  pub length-all : length (carried_of s) ≡ payload_bytes * last + length_in (block_at s last)
  unfolding carried
  length-all =
      ap (λ (m : ℕ). length (carried s m)) (let e : n ≡ suc last = omega (arith, some, whole) in e)
      ∙ omega (
        arith,
        length-append (carried s last) (payload_of (block_at s last)),
        length-carried last (omega (arith, some, whole)),
        length-payload (block_at s last) (length_at s last (omega (arith, some, whole))) (right-at last (omega (arith, some, whole))),
      )

  same_count : block_count (length (carried_of s)) ≡ n
  same_count =
      let q = (right-at last (omega (arith, some, whole))).sized in
      omega (arith, length-all, q.least, q.most, some, whole)

  pub same_length : (i : ℕ) → i < n → length_in (block_at s i) ≡ payload_length (length (carried_of s)) i
  same_length i h =
      ⊎_elim
      (λ p. omega (arith, length-all, (right-at i h).sized.full (omega arith), (right-at last (omega arith)).sized.least))
      (λ p.
      let e : i ≡ last = omega arith in
      omega (arith, length-all, ap (λ (j : ℕ). length_in (block_at s j)) e, (right-at i h).sized.most))
      (le-or-lt (suc (suc i)) n)

  -- each payload lies within the record
  pub payload-inside : (i : ℕ) → i < n → (length_in (block_at s i) ≤ payload_bytes) × (payload_bytes * i + length_in (block_at s i) ≤ length (carried_of s))
  payload-inside i h = ((right-at i h).sized.most, omega (arith, same_length i h, (right-at i h).sized.least))

  -- block 0's payload is the record's front
  pub carried-front : take payload_bytes (carried_of s) ≡ payload_of (block_at s 0)
  carried-front =
      let h : 0 < n = omega (arith, some, whole) in
      let size = length-payload (block_at s 0) (length_at s 0 h) (right-at 0 h) in
      ext_get_or 0 (take payload_bytes (carried_of s)) (payload_of (block_at s 0))
      (length-take payload_bytes (carried_of s) ∙ omega (arith, size, same_length 0 h))
      (λ k q.
      let u : k < payload_bytes = omega (arith, length-take payload_bytes (carried_of s)) in
      get_or-take payload_bytes (carried_of s) k 0 u ∙ ap (λ (j : ℕ). get_or (carried_of s) j 0) (let e : k ≡ payload_bytes * 0 + k = omega arith in e)
      ∙ carried-byte n 0 k (omega arith) h u ∙ sym (payload-byte (block_at s 0) (length_at s 0 h) (right-at 0 h) k u))

  same_number : (i : ℕ) → i < n → number_in (block_at s i) ≡ number_of (carried_of s)
  same_number i h = (right-at i h).named ∙ sym (λ t. at 2 (omega arith) t * 256 + at 3 (omega arith) t)
    where
      at : (k : ℕ) → k < payload_bytes → get_or (carried_of s) k 0 ≡ get_or s (6 + k) 0
      at k hk =
          ap (λ (j : ℕ). get_or (carried_of s) j 0) (let e : k ≡ payload_bytes * 0 + k = omega arith in e)
          ∙ carried-byte n 0 k (omega arith) (omega arith) hk ∙ byte_at s 0 (6 + k) (omega arith)
          ∙ ap (λ (j : ℕ). get_or s j 0) (let e : block_bytes * 0 + (6 + k) ≡ 6 + k = omega arith in e)

  same_block : (i : ℕ) → i < n → block_at s i ≡ block_of (carried_of s) i
  same_block i h =
      block_fixed (block_at s i) (length_at s i h) (small_at s bytes i h) (number_of (carried_of s)) i
      (payload_length (length (carried_of s)) i) (payload_byte (carried_of s) i) (same_number i h) (right-at i h).placed (same_length i h)
      (λ k hk. sym (carried-byte n i k (omega arith) h hk)) (passes_at i h)

  same_blocks : (m : ℕ) → m ≤ n → blocks (carried_of s) m ≡ take (block_bytes * m) s
  unfolding blocks block_at
  same_blocks zero h = refl
  same_blocks (suc m) h =
      (λ t. same_blocks m (omega arith) t ++ sym (same_block m h) t) ∙ sym (take-add (block_bytes * m) block_bytes s)
      ∙ ap (λ (j : ℕ). take j s) (sym (mul-suc block_bytes m))

  pub blocks-same : exported_of (carried_of s) ≡ s
  blocks-same =
      ap (blocks (carried_of s)) same_count ∙ same_blocks n (omega arith) ∙ take_all (block_bytes * n) s (omega (arith, whole))

  -- and what they carry are bytes
  pub carried-bytes : (k : ℕ) → get_or (carried_of s) k 0 < 256
  carried-bytes k = ⊎_elim past inside (le-or-lt n (k / payload_bytes))
    where
      past : n ≤ k / payload_bytes → get_or (carried_of s) k 0 < 256
      past p =
          let most = (right-at last (omega (arith, some, whole))).sized.most in
          omega (arith, get_or-eq_default (carried_of s) 0 {n = k} (omega (arith, length-all, most, some)))

      inside : k / payload_bytes < n → get_or (carried_of s) k 0 < 256
      inside p =
          let i : ℕ = k / payload_bytes in
          let j : ℕ = k % payload_bytes in
          let e : k ≡ payload_bytes * i + j = omega arith in
          omega (
            arith,
            ap (λ (m : ℕ). get_or (carried_of s) m 0) e,
            carried-byte n i j (omega arith) p (omega arith),
            small_at s bytes i p (6 + j),
          )
