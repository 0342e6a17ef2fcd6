-- Blocks that all have their check, with one byte of one of them changed, or two unequal bytes among the first 510 of one exchanged:
-- the first block with a bad check is that one, and so import gives 27 (`refused-27`). FORMAT, "Blocks". Assumes nothing.
use Prim.Native.Nat.{ℕ, ◌+◌, ◌-◌, ◌*◌, ◌/◌, ◌<◌}
use mathlib.Core.Path.{◌≡◌, ap, sym, ◌∙◌}
use mathlib.Core.Bool.{true, false}
use mathlib.Core.List.{List}
use native.Mathlib.Omega.{arith}
use lib.Dec.{T}
use lib.ListN.{length, get_or, set, take, drop, length-set}
use borrow.Author.Tests.{ne_eqb}
use lib.Seq.{take-set-le, take-set-lt, drop-set-add}
use Rattle.lists.proofs.Tests.{each_to}
use Rattle.lists.proofs.Truth.{holds}
use Rattle.header.specs.Edition.{is_unknown}
use Rattle.block_check.specs.Check.{block_bytes, covered, passes, exchanged}
use Rattle.block_check.proofs.Damage.{one-changed, two-exchanged}
use Rattle.block_layout.specs.Carried.{whole_blocks, block_at}
use Rattle.block_layout.specs.Refusals.{checks_pass, first_bad, import_refusal}
use Rattle.block_layout.proofs.BlockAt.{length_at, byte_at, small_at}
use Rattle.block_layout.proofs.Order.{import-27}
use Rattle.block_layout.proofs.FirstBad.{none-bad, bad-exactly}

-- ## one byte of the blocks set

-- byte j of block i stands here
abbrev pub place : ℕ → ℕ → ℕ
place i j = block_bytes * i + j

module _ (s : List ℕ) (i j v : ℕ) (h : j < block_bytes) where
  own_block : block_at (set s (place i j) v) i ≡ set (block_at s i) j v
  unfolding block_at
  own_block = ap (take block_bytes) (drop-set-add (block_bytes * i) s j v) ∙ take-set-lt block_bytes (drop (block_bytes * i) s) j v h

  other_block : (k : ℕ) → k < i → block_at (set s (place i j) v) k ≡ block_at s k
  unfolding block_at
  other_block k p =
      let far : ℕ = block_bytes * (i - k) + j in
      ap (λ (m : ℕ). take block_bytes (drop (block_bytes * k) (set s m v)))
      (let e : place i j ≡ block_bytes * k + far = omega arith in e)
      ∙ ap (take block_bytes) (drop-set-add (block_bytes * k) s far v)
      ∙ take-set-le block_bytes (drop (block_bytes * k) s) far v (omega arith)

-- ## the claims

module _ (s : List ℕ) (bytes : (k : ℕ) → get_or s k 0 < 256) (pass : T (checks_pass s)) (i : ℕ) (inside : i < whole_blocks s) where
  passing : (k : ℕ) → k < whole_blocks s → passes (block_at s k) ≡ true
  unfolding checks_pass
  passing k h = holds (passes (block_at s k)) (each_to (λ (k : ℕ). passes (block_at s k)) (whole_blocks s) k h pass)

  -- where only block i differs, and fails
  found : (d : List ℕ) → length d ≡ length s → passes (block_at d i) ≡ false
      → ((k : ℕ) → k < i → block_at d k ≡ block_at s k) → first_bad d ≡ i
  found d size bad before =
      ((bad-exactly d i).1
      (record {
        inside = omega (arith, size);
        bad = bad;
        before = λ k p. ap passes (before k p) ∙ passing k (omega arith);
      })).0

  -- and then import gives 27, in either edition and whatever the room
  pub refused-27 : (d : List ℕ) → length d ≡ length s → first_bad d ≡ i → (n room : ℕ) → is_unknown n ≡ false
      → import_refusal n d room ≡ 27
  refused-27 d size e n room known =
      import-27 n d room known
      (sym (none-bad d) ∙ ne_eqb (first_bad d) (whole_blocks d) (λ z. omega (arith, ap (λ (k : ℕ). k / block_bytes) size, e, z)))

  -- byte j of block i becomes another, v
  pub change-found : (j v : ℕ) → j < block_bytes → v < 256 → (v ≡ get_or s (place i j) 0 → ⊥) → first_bad (set s (place i j) v) ≡ i
  change-found j v h hv differs =
      found (set s (place i j) v) (length-set s (place i j) v)
      (ap passes (own_block s i j v h)
      ∙ one-changed (block_at s i) (length_at s i inside) (small_at s bytes i inside) (passing i inside) j v h hv (λ e. differs (e ∙ byte_at s i j h)))
      (other_block s i j v h)

  -- bytes j and k of block i change places
  pub exchange-found : (j k : ℕ) → j < covered → k < covered → (get_or s (place i j) 0 ≡ get_or s (place i k) 0 → ⊥)
      → first_bad (exchanged s (place i j) (place i k)) ≡ i
  exchange-found j k hj hk differ =
      let y = get_or s (place i k) 0 in
      let x = get_or s (place i j) 0 in
      let once = set s (place i j) y in
      let uj : j < block_bytes = omega arith in
      let uk : k < block_bytes = omega arith in
      found (exchanged s (place i j) (place i k)) (length-set once (place i k) x ∙ length-set s (place i j) y)
      (ap passes
      (own_block once i k x uk ∙ ap (λ (b : List ℕ). set b k x) (own_block s i j y uj)
      ∙ (λ t. set (set (block_at s i) j (sym (byte_at s i k uk) t)) k (sym (byte_at s i j uj) t)))
      ∙ two-exchanged (block_at s i) (length_at s i inside) (small_at s bytes i inside) (passing i inside) j k hj hk
      (λ e. differ (sym (byte_at s i j uj) ∙ e ∙ byte_at s i k uk)))
      (λ m p. other_block once i k x uk m p ∙ other_block s i j y uj m p)
