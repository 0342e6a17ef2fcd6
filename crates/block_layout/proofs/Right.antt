-- What holds of blocks that 28 does not refuse, said of each block and each byte apart from the tests of the definition: the tests
-- hold exactly when it does. FORMAT, "Blocks". Assumes nothing.
use Prim.Native.Nat.{ℕ, ◌+◌, ◌-◌, ◌*◌, ◌%◌, ◌≤◌, ◌<◌}
use mathlib.Core.Path.{◌≡◌, ap, ◌∙◌}
use mathlib.Core.Bool.{Bool, ◌&&◌}
use mathlib.Core.List.{List}
use native.Mathlib.Omega.{arith}
use lib.Dec.{T, eqb, leb, leb→le, le→leb}
use lib.ListN.{length, get_or}
use borrow.Author.Tests.{eq-eqb, eqb-true}
use Rattle.lists.proofs.Tests.{each_to, all-to}
use Rattle.lists.proofs.Truth.{◌exactly-when◌, left, right, both, held, holds}
use Rattle.block_check.specs.Check.{payload_at, block_bytes, payload_bytes}
use Rattle.block_layout.specs.Carried.{whole_blocks, block_at, number_in, index_in, length_in}
use Rattle.block_layout.specs.Refusals.{length_right, padded, block_right, right_number, each_right, blocks_right}
use Rattle.block_layout.proofs.BlockAt.{small_at}
use Rattle.block_layout.proofs.Lengths.{LengthRight, length-right, right-length}

-- ## what is claimed

-- block i of n, of the record of that number: its number, its index, its payload length (`LengthRight`), and zeros after the last
-- used byte
pub record Right (number n i : ℕ) (b : List ℕ) : Type 0 where
  pub named : number_in b ≡ number
  pub placed : index_in b ≡ i
  pub sized : LengthRight n i (length_in b)
  pub zeros : (k : ℕ) → length_in b ≤ k → k < payload_bytes → get_or b (payload_at + k) 0 ≡ 0

-- at least one block, no part block, and each block right
pub record RightBlocks (s : List ℕ) : Type 0 where
  pub some : 1 ≤ whole_blocks s
  pub whole : length s ≡ block_bytes * whole_blocks s
  pub each : (i : ℕ) → i < whole_blocks s → Right (right_number s) (whole_blocks s) i (block_at s i)

-- ## the proof

equal : (a b : ℕ) → T (eqb a b) → a ≡ b
equal a b t = eqb-true a b (holds (eqb a b) t)

same : (a b : ℕ) → a ≡ b → T (eqb a b)
same a b e = held (eqb a b) (eq-eqb a b e)

module _ (number n i : ℕ) (b : List ℕ) where
  -- the tests of one block, from the second on and from the third on
  abbrev sized-padded : Bool
  sized-padded = length_right n i (length_in b) && padded b

  abbrev placed-sized-padded : Bool
  placed-sized-padded = eqb (index_in b) i && sized-padded

  abbrev is_zero : ℕ → Bool
  is_zero k = eqb (get_or b (payload_at + length_in b + k) 0) 0

  right-from-test : T (block_right number n i b) → Right number n i b
  unfolding block_right padded
  right-from-test t =
      let u = right (eqb (number_in b) number) placed-sized-padded t in
      let v = right (eqb (index_in b) i) sized-padded u in
      record {
        named = equal (number_in b) number (left (eqb (number_in b) number) placed-sized-padded t);
        placed = equal (index_in b) i (left (eqb (index_in b) i) sized-padded u);
        sized = right-length n i (length_in b) (left (length_right n i (length_in b)) (padded b) v);
        zeros = λ k p q.
            ap (λ (j : ℕ). get_or b j 0) (let e : payload_at + k ≡ payload_at + length_in b + (k - length_in b) = omega arith in e)
            ∙ equal (get_or b (payload_at + length_in b + (k - length_in b)) 0) 0
            (each_to is_zero (payload_bytes - length_in b) (k - length_in b) (omega arith)
            (right (length_right n i (length_in b)) (padded b) v));
      }

  pub test-from-right : Right number n i b → T (block_right number n i b)
  unfolding block_right padded
  test-from-right r =
      both (eqb (number_in b) number) placed-sized-padded (same _ _ r.named)
      (both (eqb (index_in b) i) sized-padded (same _ _ r.placed)
      (both (length_right n i (length_in b)) (padded b) (length-right n i (length_in b) r.sized)
      (all-to is_zero (payload_bytes - length_in b)
      (λ k h.
      same _ _
      (ap (λ (j : ℕ). get_or b j 0) (let e : payload_at + length_in b + k ≡ payload_at + (length_in b + k) = omega arith in e)
      ∙ r.zeros (length_in b + k) (omega arith) (omega arith))))))

module _ (s : List ℕ) where
  abbrev n : ℕ
  n = whole_blocks s

  abbrev rest : Bool
  rest = each_right (right_number s) s n

  pub blocks-from-test : T (blocks_right s) → RightBlocks s
  unfolding blocks_right
  blocks-from-test t =
      let u = right (leb 1 n) (eqb (length s % block_bytes) 0 && rest) t in
      let e : length s % block_bytes ≡ 0 = equal _ _ (left (eqb (length s % block_bytes) 0) rest u) in
      record {
        some = leb→le 1 n (left (leb 1 n) (eqb (length s % block_bytes) 0 && rest) t);
        whole = omega (arith, e);
        each = λ i h.
            right-from-test (right_number s) n i (block_at s i)
            (each_to (λ (i : ℕ). block_right (right_number s) n i (block_at s i)) n i h
            (right (eqb (length s % block_bytes) 0) rest u));
      }

  pub test-from-blocks : RightBlocks s → T (blocks_right s)
  unfolding blocks_right
  test-from-blocks r =
      both (leb 1 n) (eqb (length s % block_bytes) 0 && rest) (le→leb 1 n r.some)
      (both (eqb (length s % block_bytes) 0) rest (same (length s % block_bytes) 0 (omega (arith, r.whole)))
      (all-to (λ (i : ℕ). block_right (right_number s) n i (block_at s i)) n
      (λ i h. test-from-right (right_number s) n i (block_at s i) (r.each i h))))

  -- the test of 28 holds exactly when the blocks are right
  pub right-exactly : T (blocks_right s) exactly-when RightBlocks s
  right-exactly = (blocks-from-test, test-from-blocks)

  -- so there are at most 65,536 blocks: an index has two bytes
  pub few-blocks : ((k : ℕ) → get_or s k 0 < 256) → T (blocks_right s) → n ≤ 65536
  few-blocks bytes t =
      let r = blocks-from-test t in
      let last : ℕ = n - 1 in
      let h : last < n = omega (arith, r.some) in
      omega (arith, (r.each last h).placed, small_at s bytes last h 2, small_at s bytes last h 3, r.some)
