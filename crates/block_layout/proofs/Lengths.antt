-- The test of a block's length, put together and taken apart. Assumes nothing.
use Prim.Native.Nat.{ℕ, ◌+◌, ◌≤◌, ◌<◌}
use mathlib.Core.Path.{◌≡◌, refl}
use mathlib.Core.Bool.{Bool, true, false, cond, not, ◌&&◌, ◌||◌}
use native.Mathlib.Omega.{arith}
use lib.Dec.{T, eqb, leb, ltb, leb→le, le→leb}
use borrow.Author.Tests.{eq-eqb, eqb-true, eqb-false, ltb-true, ltb-false}
use Rattle.lists.proofs.Truth.{left, right, both, held, holds}
use Rattle.block_check.specs.Check.{payload_bytes}
use Rattle.block_layout.specs.Refusals.{full_or_last, holds_number, length_right}

pub record LengthRight (n i bytes : ℕ) : Type 0 where
  pub full : i + 1 < n → bytes ≡ payload_bytes
  pub least : 1 ≤ bytes
  pub most : bytes ≤ payload_bytes
  pub first : i ≡ 0 → 4 ≤ bytes

module _ (n i bytes : ℕ) where
  pub length-right : LengthRight n i bytes → T (length_right n i bytes)
  length-right r = both (full_or_last n i bytes) (holds_number i bytes) (by_place (ltb (i + 1) n) refl) (by_first (eqb i 0) refl)
    where
      by_place : (t : Bool) → ltb (i + 1) n ≡ t → T (cond t (eqb bytes payload_bytes) (leb 1 bytes && leb bytes payload_bytes))
      by_place true e = held _ (eq-eqb bytes payload_bytes (r.full (ltb-true (i + 1) n e)))
      by_place false e = both (leb 1 bytes) (leb bytes payload_bytes) (le→leb 1 bytes r.least) (le→leb bytes payload_bytes r.most)

      by_first : (t : Bool) → eqb i 0 ≡ t → T (not t || leb 4 bytes)
      by_first true e = le→leb 4 bytes (r.first (eqb-true i 0 e))
      by_first false e = tt

  pub right-length : T (length_right n i bytes) → LengthRight n i bytes
  right-length t =
      let p = left (full_or_last n i bytes) (holds_number i bytes) t in
      let q = right (full_or_last n i bytes) (holds_number i bytes) t in
      by_place (ltb (i + 1) n) refl p (by_first (eqb i 0) refl q)
    where
      by_first : (u : Bool) → eqb i 0 ≡ u → T (not u || leb 4 bytes) → i ≡ 0 → 4 ≤ bytes
      by_first true e q z = leb→le 4 bytes q
      by_first false e q z = absurd (eqb-false i 0 e z)

      by_place : (u : Bool) → ltb (i + 1) n ≡ u → T (cond u (eqb bytes payload_bytes) (leb 1 bytes && leb bytes payload_bytes)) → (i ≡ 0 → 4 ≤ bytes)
          → LengthRight n i bytes
      by_place true e p f =
          let x : bytes ≡ payload_bytes = eqb-true bytes payload_bytes (holds (eqb bytes payload_bytes) p) in
          record { full = λ h. x; least = omega (arith, x); most = omega (arith, x); first = f }
      by_place false e p f =
          record {
            full = λ h. absurd (let z : ⊥ = omega (arith, ltb-false (i + 1) n e) in z);
            least = leb→le 1 bytes (left (leb 1 bytes) (leb bytes payload_bytes) p);
            most = leb→le bytes payload_bytes (right (leb 1 bytes) (leb bytes payload_bytes) p);
            first = f;
          }
