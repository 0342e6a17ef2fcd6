-- The cells of a channel's total: sums of signed numbers that are from 0 up, and what the code makes for them. Assumes nothing.
use Prim.Native.Nat.{ℕ, zero, suc, ◌-◌, ◌*◌, ◌≤◌}
use mathlib.Core.Path.{◌≡◌, refl, ap, sym, ◌∙◌, subst}
use native.Mathlib.Omega.{arith}
use lib.Dec.{T}
use lib.IntN.{ℤ, pos, negsuc, neg_ℤ, nat_abs, ◌+ℤ◌, ◌-ℤ◌, +ℤ_comm}
use lib.Signed.{non_neg}
use mir.Syntax.{w8, w32, w64}
use mir.Val.{Fits, SFits, to_z, of_z}
use mir.Facts.{to_z-of_z, sfits_widen}
use mir.ValLaws.{to_z_pos}
use Rattle.totals.specs.declared.Total.{Total}
use Rattle.totals.proofs.Bits.{mag≤abs, byte-abs, widens}
use Rattle.sample_rates.specs.Rates.{most_samples}
use Rattle.index_model.specs.Cells.{sample_offset, greatest_offset, nat_of}
use Rattle.index_model.proofs.Differences.{sub-pos}
use Rattle.index_row.specs.Row.{Bounded}

-- z is a number from 0 up that a cell holds: at most twice the offsets of all samples
pub record Within (z : ℤ) : Type 0 where
  pub is : z ≡ pos (nat_of z)
  pub most : nat_of z ≤ 2 * (sample_offset * most_samples)

-- a signed number raised by at least its size
raised : (z : ℤ) (m : ℕ) → nat_abs z ≤ m → m ≤ sample_offset * most_samples → Within (z +ℤ pos m)
raised (pos a) m h l = record { is = refl; most = omega arith }
raised (negsuc a) m h l =
    let e = sub-pos m (suc a) (m - suc a) (omega arith) in
    record { is = e ∙ ap pos (sym (ap nat_of e)); most = omega (arith, ap nat_of e) }

negative-abs : (z : ℤ) → nat_abs (neg_ℤ z) ≤ nat_abs z
negative-abs (pos zero) = omega arith
negative-abs (pos (suc n)) = omega arith
negative-abs (negsuc n) = omega arith

pub sum-within : (n : ℕ) (t : Total) → Bounded n t → Within (t.sum +ℤ pos (sample_offset * n))
sum-within n t b = raised t.sum (sample_offset * n) b.sums (omega (arith, b.few))

pub least-within : (x : ℤ) → SFits w8 x → Within (pos sample_offset -ℤ x)
least-within x f =
    subst Within (+ℤ_comm (neg_ℤ x) (pos sample_offset))
    (raised (neg_ℤ x) sample_offset (omega (arith, negative-abs x, byte-abs f)) (omega arith))

pub greatest-within : (x : ℤ) → SFits w8 x → Within (x +ℤ pos greatest_offset)
greatest-within x f = raised x greatest_offset (omega (arith, byte-abs f)) (omega arith)

-- ## what the code makes, of numbers that it reads from their bits

pub record Makes (made z : ℤ) : Type 0 where
  pub same : made ≡ z
  pub within : Within z

pub sum-made : (n : ℕ) (t : Total) → Bounded n t
    → Makes (to_z w64 (of_z w64 t.sum) +ℤ to_z w64 (sample_offset * n)) (t.sum +ℤ pos (sample_offset * n))
sum-made n t b =
    let f : SFits w64 t.sum = record { sfits = omega (arith, mag≤abs t.sum, b.sums, b.few) } in
    record { same = λ i. to_z-of_z f i +ℤ to_z_pos w64 (sample_offset * n) (omega (arith, b.few)) i; within = sum-within n t b }

module _ (x : ℤ) (f : SFits w8 x) where
  wide : to_z w64 (of_z w64 (to_z w8 (of_z w8 x))) ≡ x
  wide = widens w64 (sfits_widen tt f) f

  pub least-made : Makes (pos sample_offset -ℤ to_z w64 (of_z w64 (to_z w8 (of_z w8 x)))) (pos sample_offset -ℤ x)
  least-made = record { same = ap (λ (z : ℤ). pos sample_offset -ℤ z) wide; within = least-within x f }

  pub greatest-made : Makes (to_z w64 (of_z w64 (to_z w8 (of_z w8 x))) +ℤ pos greatest_offset) (x +ℤ pos greatest_offset)
  greatest-made = record { same = ap (λ (z : ℤ). z +ℤ pos greatest_offset) wide; within = greatest-within x f }

-- it fits, so does the cell, and the cell is the definition's
module _ {made z : ℤ} (m : Makes made z) where
  whole : made ≡ pos (nat_of z)
  whole = m.same ∙ m.within.is

  pub made-fits : SFits w64 made
  made-fits = subst (SFits w64) (sym whole) (record { sfits = omega (arith, m.within.most) })

  read : to_z w64 (of_z w64 made) ≡ pos (nat_of z)
  read = to_z-of_z made-fits ∙ whole

  pub cell-is : nat_abs (to_z w64 (of_z w64 made)) ≡ nat_of z
  cell-is = ap nat_abs read
