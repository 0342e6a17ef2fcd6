-- The blocks as a list: `chunks_exact` yields it, and the first of it that fails is the first bad block. Assumes nothing.
use Prim.Native.Nat.{ℕ, zero, suc, ◌+◌, ◌*◌, ◌<◌}
use mathlib.Core.Path.{◌≡◌, refl, ap, sym, ◌∙◌, subst}
use mathlib.Core.Bool.{Bool, true, false, cond, not}
use mathlib.Core.List.{List, ◌∷◌, ◌++◌}
use native.Mathlib.Nat.{add-zero, add-suc, suc-add, zero-add}
use native.Mathlib.Omega.{arith}
use lib.ListN.{length, take, drop, length-append}
use lib.Seq.{take_at, drop_at, drop-drop}
use Rattle.std.specs.List.{position_or_len}
use Rattle.std.specs.Slice.Iter.{chunks_exact_rest, chunks_exact_size, chunks_exact_steps}
use Rattle.std.proofs.lemmas.Iterator.{YieldsList}
use Rattle.std.proofs.lemmas.Iterator.Splits.{YieldsList-from_shown_while}
use Rattle.lists.specs.Fill.{tab}
use Rattle.lists.specs.Tests.{first_not}
use Rattle.lists.proofs.Fill.{length-tab}
use Rattle.block_check.specs.Check.{block_bytes, passes}
use Rattle.block_layout.specs.Carried.{block_at, whole_blocks}
use Rattle.block_layout.specs.Refusals.{first_bad}

-- the whole blocks, from the first on
abbrev pub blocks_of : List ℕ → List (List ℕ)
blocks_of s = tab (block_at s) 0 (whole_blocks s)

-- what a rule gives from the second place on
tab-rest : (f g : ℕ → List ℕ) (k n : ℕ) → ((i : ℕ) → f (suc i) ≡ g i) → tab f (suc k) n ≡ tab g k n
tab-rest f g k zero e = refl
tab-rest f g k (suc n) e = λ t. e k t ∷ tab-rest f g (suc k) n e t

-- bytes shorter than a block have none, and a block in front is the first of them
none-whole : (s : List ℕ) → length s < block_bytes → length (blocks_of s) ≡ 0
none-whole s h = length-tab (block_at s) 0 (whole_blocks s) ∙ omega arith

one-more : (b s : List ℕ) → length b ≡ block_bytes → blocks_of (b ++ s) ≡ b ∷ blocks_of s
unfolding block_at
one-more b s e =
    ap (tab (block_at (b ++ s)) 0) (let n : whole_blocks (b ++ s) ≡ suc (whole_blocks s) = omega (arith, length-append b s, e) in n)
    ∙ (λ t. take_at b s block_bytes e t ∷ tab-rest (block_at (b ++ s)) (block_at s) 0 (whole_blocks s) next t)
  where
    next : (i : ℕ) → block_at (b ++ s) (suc i) ≡ block_at s i
    next i =
        ap (λ (k : ℕ). take block_bytes (drop k (b ++ s))) (let k : block_bytes * suc i ≡ block_bytes + block_bytes * i = omega arith in k)
        ∙ ap (take block_bytes) (sym (drop-drop (block_bytes * i) block_bytes (b ++ s)) ∙ ap (drop (block_bytes * i)) (drop_at b s block_bytes e))

-- so `chunks_exact` yields them
pub blocks-listed : {c : _} (s : List ℕ) → chunks_exact_rest c ≡ s → chunks_exact_size c ≡ block_bytes
    → YieldsList (chunks_exact_steps {A = ℕ}) (λ x. x.now) c (blocks_of s)
blocks-listed {c} s rest size =
    subst (λ (l : List ℕ). YieldsList (chunks_exact_steps {A = ℕ}) (λ x. x.now) c (blocks_of l)) rest
    (YieldsList-from_shown_while (chunks_exact_steps {A = ℕ}) (λ x. x.now) (λ t. blocks_of (chunks_exact_rest t)) (λ t. chunks_exact_size t ≡ block_bytes)
    (λ t u k h. none-whole (chunks_exact_rest t) (omega (arith, h.1.0, k)))
    (λ t x u k h. (h.0 ∙ k, ap blocks_of h.1.0 ∙ one-more x.now (chunks_exact_rest u) (h.1.1 ∙ k)))
    c size)

-- and the first of them that fails is the first bad block
not-not : (t : Bool) → not (not t) ≡ t
not-not true = refl
not-not false = refl

first-in : (f : ℕ → List ℕ) (k n : ℕ) → position_or_len (λ b. not (passes b)) (tab f k n) ≡ first_not (λ i. passes (f (k + i))) n
unfolding first_not
first-in f k zero = refl
first-in f k (suc n) =
    let so_far = first-in f (suc k) n ∙ (λ t. first_not (λ i. passes (f ((suc-add k i ∙ sym (add-suc k i)) t))) n) in
    let more : 1 + position_or_len (λ b. not (passes b)) (tab f (suc k) n) ≡ suc (first_not (λ i. passes (f (k + suc i))) n) = omega (arith, so_far) in
    λ t. cond ((not-not (passes (f k)) ∙ ap (λ (i : ℕ). passes (f i)) (sym (add-zero k))) t) (more t) 0

pub first-listed : (s : List ℕ) → position_or_len (λ b. not (passes b)) (blocks_of s) ≡ first_bad s
unfolding first_bad
first-listed s = first-in (block_at s) 0 (whole_blocks s) ∙ (λ t. first_not (λ i. passes (block_at s (zero-add i t))) (whole_blocks s))
