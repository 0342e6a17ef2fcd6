-- The running total, one sample after the other, is the total, and has room for the next. Assumes nothing.
use Prim.Native.Nat.{ℕ, zero, suc, ◌+◌, ◌<◌}
use mathlib.Core.Path.{◌≡◌, sym, ap, ◌∙◌}
use mathlib.Core.List.{List, [], ◌∷◌, ◌++◌, foldl, foldl-append}
use native.Mathlib.Nat.{lt_irrefl}
use native.Mathlib.Numerals.{add-one}
use native.Mathlib.Omega.{arith}
use lib.IntN.{ℤ, pos, negsuc, ◌+ℤ◌, +ℤ_idr}
use lib.ListN.{length, length-append}
use mir.Syntax.{w8}
use mir.Val.{SFits}
use Rattle.lists.proofs.Fill.{length-tab}
use Rattle.totals.specs.declared.Total.{Total}
use Rattle.channels.specs.Sample.{sample_of, samples_of}
use Rattle.totals.specs.Total.{
  sum_of,
  square_of,
  squares_of,
  lesser,
  greater,
  kept_of,
  clipped_one,
  clipped_of,
  total_of,
  totals_of,
  count_limit,
}
use Rattle.totals.specs.Running.{next_of, Room, running_of, runnings_of, total_at, channel_next}
use Rattle.totals.proofs.Samples.{Bytes, bytes-append, samples-bytes, samples-more}
use Rattle.totals.proofs.Sums.{sum-append, added_more, sum_bound, squares-bound, clipped-bound}
use Rattle.totals.proofs.Extremes.{lesser-start, greater-start}

-- one sample more, at the end of the list
pub running_more : (l : List ℤ) (x : ℤ) → running_of (l ++ x ∷ []) ≡ next_of (running_of l) x
unfolding running_of next_of sum_of
running_more l x i =
    record {
      sum = (sum-append l (x ∷ []) ∙ ap (λ (z : ℤ). sum_of l +ℤ z) (+ℤ_idr x)) i;
      squares = added_more square_of l x i;
      least = foldl-append lesser (pos 127) l (x ∷ []) i;
      greatest = foldl-append greater (negsuc 127) l (x ∷ []) i;
      clipped = added_more clipped_one l x i;
    }

-- the first sample replaces the start
pub running-total : (l : List ℤ) → Bytes l → 0 < length l → running_of l ≡ total_of l
unfolding running_of total_of kept_of
running-total [] h p = absurd (lt_irrefl 0 p)
running-total (x ∷ l) h p =
    λ i. record {
      sum = sum_of (x ∷ l);
      squares = squares_of (x ∷ l);
      least = foldl lesser (lesser-start x h.0 i) l;
      greatest = foldl greater (greater-start x h.0 i) l;
      clipped = clipped_of (x ∷ l);
    }

-- the same of the total itself, from the second sample on
pub total-more : (l : List ℤ) (x : ℤ) → Bytes l → SFits w8 x → 0 < length l → total_of (l ++ x ∷ []) ≡ next_of (total_of l) x
total-more l x h f p =
    sym (running-total (l ++ x ∷ []) (bytes-append l (x ∷ []) h (f, tt)) (omega (arith, length-append l (x ∷ []))))
    ∙ running_more l x
    ∙ ap (λ (t : Total). next_of t x) (running-total l h p)

pub running-room : (l : List ℤ) → Bytes l → length l < count_limit → Room (running_of l)
unfolding running_of
running-room l h n =
    record {
      sums = omega (arith, sum_bound l h);
      squared = omega (arith, squares-bound l h);
      counted = omega (arith, clipped-bound l h);
    }

-- a channel's next total, for its sample k
channel-more : (s : List ℕ) (c k : ℕ) → next_of (running_of (samples_of s c k)) (sample_of s c k) ≡ running_of (samples_of s c (k + 1))
channel-more s c k =
    sym (running_more (samples_of s c k) (sample_of s c k))
    ∙ ap running_of (sym (samples-more s c k) ∙ ap (λ (n : ℕ). samples_of s c n) (sym (add-one k)))

-- the running totals, with sample k taken by channels 1 to c
unfoldable pub taken : List ℕ → ℕ → ℕ → List Total
taken s k zero = runnings_of s k
taken s k (suc c) = channel_next (taken s k c) s (suc c) k

pub taken-all : (s : List ℕ) (k : ℕ) → taken s k 4 ≡ runnings_of s (k + 1)
unfolding taken channel_next runnings_of
taken-all s k = λ i. channel-more s 1 k i ∷ channel-more s 2 k i ∷ channel-more s 3 k i ∷ channel-more s 4 k i ∷ []

-- the next channel has its running total still, which has room
pub taken-room : (s : List ℕ) (k c : ℕ) → k < count_limit → c < 4 → Room (total_at (taken s k c) (suc c))
unfolding taken channel_next runnings_of
taken-room s k c h = by c
  where
    room : (d : ℕ) → Room (running_of (samples_of s d k))
    room d = running-room (samples_of s d k) (samples-bytes s d k) (omega (arith, length-tab (sample_of s d) 0 k))

    by : (c : ℕ) → c < 4 → Room (total_at (taken s k c) (suc c))
    by zero l = room 1
    by (suc zero) l = room 2
    by (suc (suc zero)) l = room 3
    by (suc (suc (suc zero))) l = room 4
    by (suc (suc (suc (suc c)))) l = absurd (let z : ⊥ = omega arith in z)

-- four running totals of some samples are the four totals
pub runnings-totals : (s : List ℕ) (n : ℕ) → 0 < n → runnings_of s n ≡ totals_of s n
unfolding runnings_of totals_of
runnings-totals s n p = λ i. same 1 i ∷ same 2 i ∷ same 3 i ∷ same 4 i ∷ []
  where
    same : (c : ℕ) → running_of (samples_of s c n) ≡ total_of (samples_of s c n)
    same c = running-total (samples_of s c n) (samples-bytes s c n) (omega (arith, length-tab (sample_of s c) 0 n))
