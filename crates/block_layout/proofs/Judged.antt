-- The blocks of a record pass 27 and 28. Assumes nothing.
use Prim.Native.Nat.{ℕ, ◌+◌, ◌*◌, ◌≤◌, ◌<◌}
use mathlib.Core.Path.{◌≡◌, ap, sym, ◌∙◌, subst}
use mathlib.Core.List.{List}
use native.Mathlib.Omega.{arith}
use lib.Dec.{T}
use lib.ListN.{length, get_or, get_or-eq_default}
use lib.Seq.{get_or-take}
use borrow.Author.Tests.{eq-eqb}
use Rattle.lists.proofs.Truth.{held}
use Rattle.record.specs.Record.{longest_record}
use Rattle.block_check.specs.Check.{block_bytes, payload_bytes, passes}
use Rattle.lists.specs.Tests.{all_to}
use Rattle.lists.proofs.Tests.{all-to}
use Rattle.block_layout.specs.Layout.{block_count, payload_length, payload_byte, block_of, exported_of, number_of}
use Rattle.block_layout.specs.Carried.{whole_blocks, block_at, length_in}
use Rattle.block_layout.specs.Refusals.{checks_pass, right_number, blocks_right}
use Rattle.block_layout.proofs.Block.{number-laid, index-laid, length-laid, byte-laid, passes-laid}
use Rattle.block_layout.proofs.Exported.{length-blocks, block_in}
use Rattle.block_layout.proofs.Lengths.{LengthRight}
use Rattle.block_layout.proofs.Right.{Right, test-from-blocks}

module _ (r : List ℕ) (bytes : (k : ℕ) → get_or r k 0 < 256) (least : 4 ≤ length r) (most : length r ≤ longest_record) where
  abbrev count : ℕ
  count = block_count (length r)

  pub whole-blocks : whole_blocks (exported_of r) ≡ count
  whole-blocks = omega (arith, length-blocks r count)

  pub checks-pass : T (checks_pass (exported_of r))
  unfolding checks_pass
  checks-pass =
      subst (λ (n : ℕ). T (all_to (λ (i : ℕ). passes (block_at (exported_of r) i)) n)) (sym whole-blocks)
      (all-to (λ (i : ℕ). passes (block_at (exported_of r) i)) count
      (λ i h.
      subst (λ (b : List ℕ). T (passes b)) (sym (block_in r count i h))
      (held _ (eq-eqb _ _ (passes-laid (number_of r) i (payload_length (length r) i) (payload_byte r i))))))

  -- byte k of block 0's payload
  first-payload : (k : ℕ) → k < payload_bytes → get_or (exported_of r) (6 + k) 0 ≡ get_or r k 0
  unfolding block_at
  first-payload k h =
      sym (get_or-take block_bytes (exported_of r) (6 + k) 0 (omega arith))
      ∙ ap (λ (b : List ℕ). get_or b (6 + k) 0) (block_in r count 0 (omega arith))
      ∙ byte-laid (number_of r) 0 (payload_length (length r) 0) (payload_byte r 0) k h
      ∙ ap (λ (j : ℕ). get_or r j 0) (let e : payload_bytes * 0 + k ≡ k = omega arith in e)

  -- block i, of the record's number
  right-one : (i : ℕ) → i < count → Right (number_of r) count i (block_of r i)
  right-one i h =
      record {
        named = number-laid (number_of r) i l f (omega (arith, bytes 2, bytes 3));
        placed = index-laid (number_of r) i l f (omega arith);
        sized =
            subst (λ (x : ℕ). LengthRight count i x) (sym size)
            (record { full = λ p. omega arith; least = omega arith; most = omega arith; first = λ z. omega (arith, z) });
        zeros = λ k p q. byte-laid (number_of r) i l f k q ∙ get_or-eq_default r 0 {n = payload_bytes * i + k} (omega (arith, size, p));
      }
    where
      l : ℕ
      l = payload_length (length r) i

      f : ℕ → ℕ
      f = payload_byte r i

      size : length_in (block_of r i) ≡ l
      size = length-laid (number_of r) i l f (omega arith)

  pub exported-right : T (blocks_right (exported_of r))
  exported-right =
      test-from-blocks s
      (record {
        some = omega (arith, length-blocks r count);
        whole = omega (arith, length-blocks r count);
        each = λ i h. right-at i (omega (arith, whole-blocks));
      })
    where
      s : List ℕ
      s = exported_of r

      number : right_number s ≡ number_of r
      number = λ t. first-payload 2 (omega arith) t * 256 + first-payload 3 (omega arith) t

      right-at : (i : ℕ) → i < count → Right (right_number s) (whole_blocks s) i (block_at s i)
      right-at i h =
          subst (λ (x : ℕ). Right x (whole_blocks s) i (block_at s i)) (sym number)
          (subst (λ (m : ℕ). Right (number_of r) m i (block_at s i)) (sym whole-blocks)
          (subst (λ (b : List ℕ). Right (number_of r) count i b) (sym (block_in r count i h)) (right-one i h)))
