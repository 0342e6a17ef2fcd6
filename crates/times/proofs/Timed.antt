-- Where a sample stands by the tag, within which bounds its time lies, and that none is rounded: the rates of every edition divide
-- a second evenly. Assumes nothing.
use Prim.Native.Nat.{ℕ, suc, ◌+◌, ◌*◌, ◌-◌, ◌/◌, ◌^◌, ◌≤◌, ◌<◌}
use mathlib.Core.Path.{◌≡◌, refl, sym, ap, subst, ◌∙◌}
use mathlib.Core.Bool.{Bool, true, false, cond}
use mathlib.Core.List.{List}
use mathlib.Core.Logic.{⊎_elim}
use native.Mathlib.Nat.{div-le_self}
use native.Mathlib.Omega.{arith}
use lib.Dec.{eqb, ltb}
use lib.Signed.{mag}
use lib.IntN.{ℤ, pos, negsuc, neg_ℤ, ◌+ℤ◌, ◌*ℤ◌, *ℤ-zero}
use borrow.Author.Tests.{eqb-true, eqb-false, lt-ltb, le-ltb, eq-eqb, ne_eqb}
use Rattle.lists.proofs.Order.{le-or-lt}
use Rattle.lists.proofs.Range.{Between, moved_up, negated-between}
use Rattle.fields.specs.Field.{value_of}
use Rattle.fields.proofs.OneField.{value-lt}
use Rattle.header.specs.Rows.{time_tag}
use Rattle.header.specs.Edition.{layout_of, sample_rate}
use Rattle.sample_rates.specs.declared.SampleRate.{SampleRate}
use Rattle.sample_rates.specs.Rates.{rate_hz, interval_us, most_samples, second_us}
use Rattle.sample_rates.proofs.Lines.{SoundLine}
use Rattle.editions.proofs.Lines.{rate-line}
use Rattle.record.specs.Stretch.{record_rate}
use Rattle.times.specs.SampleTime.{ms_us, tagged_sample, intervals, rounded_down, from_tag, time_of, sample_time}
use Rattle.times.proofs.Rounding.{not-rounded-by}

-- ## by the tag

pub no-rate : (hz k : ℕ) → hz ≡ 0 → from_tag hz k ≡ pos 0
no-rate hz k z =
    ap (λ (t : Bool). cond t (pos 0) (rounded_down (intervals k *ℤ pos second_us) hz)) (eq-eqb hz 0 z)

module _ (hz k : ℕ) (some : hz ≡ 0 → ⊥) where
  -- by the test whether the sample stands before the tagged one
  by_place : (t : Bool) → ltb k tagged_sample ≡ t
      → from_tag hz k ≡ rounded_down (cond t (negsuc (tagged_sample - suc k)) (pos (k - tagged_sample)) *ℤ pos second_us) hz
  by_place t e =
      ap (λ (b : Bool). cond b (pos 0) (rounded_down (intervals k *ℤ pos second_us) hz)) (ne_eqb hz 0 some)
      ∙ ap (λ (b : Bool). rounded_down (cond b (negsuc (tagged_sample - suc k)) (pos (k - tagged_sample)) *ℤ pos second_us) hz) e

  -- rounded down, the way back to a sample before the tag is rounded up
  pub before-tag : k < tagged_sample → from_tag hz k ≡ neg_ℤ (pos (((tagged_sample - k) * second_us - 1) / hz + 1))
  before-tag h =
      let m = (tagged_sample - k) * second_us - 1 in
      let e : suc (tagged_sample - suc k) * second_us ≡ suc m = omega arith in
      let f : suc (m / hz) ≡ m / hz + 1 = omega arith in
      by_place true (lt-ltb k tagged_sample h) ∙ ap (λ (x : ℕ). rounded_down (neg_ℤ (pos x)) hz) e ∙ ap (λ (x : ℕ). neg_ℤ (pos x)) f

  pub after_tag : tagged_sample ≤ k → from_tag hz k ≡ pos ((k - tagged_sample) * second_us / hz)
  after_tag h = by_place false (le-ltb k tagged_sample h)

-- ## small

-- the tag of any bytes
pub tag_small : (b : List ℕ) → value_of time_tag b < 2 ^ 27
tag_small b = value-lt time_tag b refl refl

-- at most two seconds below zero; above it at most so many microseconds and a second for each sample of a record
abbrev pub Near : ℕ → ℤ → Type 0
Near us z = Between (tagged_sample * second_us) (us + most_samples * second_us) z

pub near-tag : (hz k : ℕ) → k < most_samples → Near 0 (from_tag hz k)
near-tag hz k h = by-test (eqb hz 0) refl
  where
    by-test : (t : Bool) → eqb hz 0 ≡ t → Near 0 (from_tag hz k)
    by-test true e = subst (Near 0) (sym (no-rate hz k (eqb-true hz 0 e))) (omega arith)
    by-test false e =
        let some = eqb-false hz 0 e in
        ⊎_elim
        (λ p. subst (Near 0) (sym (after_tag hz k some p)) (omega (arith, div-le_self ((k - tagged_sample) * second_us) hz)))
        (λ p. subst (Near 0) (sym (before-tag hz k some p))
        (negated-between (tagged_sample * second_us) (most_samples * second_us) (((tagged_sample - k) * second_us - 1) / hz + 1)
        (omega (arith, div-le_self ((tagged_sample - k) * second_us - 1) hz))))
        (le-or-lt tagged_sample k)

pub time-near : (tag hz k : ℕ) → k < most_samples → Near (ms_us * tag) (time_of tag hz k)
time-near tag hz k h =
    moved_up (tagged_sample * second_us) (most_samples * second_us) (ms_us * tag) (from_tag hz k) (near-tag hz k h)

-- so a time fits a number of 64 bits
pub time-fits : (tag hz k : ℕ) → tag < 2 ^ 27 → k < most_samples → mag (time_of tag hz k) < 2 ^ 63
time-fits tag hz k p q = by-sign (time_of tag hz k) (time-near tag hz k q)
  where
    by-sign : (z : ℤ) → Near (ms_us * tag) z → mag z < 2 ^ 63
    by-sign (pos n) h = omega (arith, p, h)
    by-sign (negsuc n) h = omega (arith, h)

-- ## not rounded

-- the way to sample k is that many times the way to the next, by a line of any edition
whole : (n hz k : ℕ) (l : SampleRate) → SoundLine (layout_of n) hz l → from_tag (rate_hz l) k ≡ intervals k *ℤ pos (interval_us l)
whole n hz k l s =
    let some = ne_eqb (rate_hz l) 0 (λ z. omega (arith, s.positive)) in
    ap (λ (t : Bool). cond t (pos 0) (rounded_down (intervals k *ℤ pos second_us) (rate_hz l))) some
    ∙ not-rounded-by second_us (rate_hz l) s.positive s.even (intervals k)
    ∙ sym (ap (λ (t : Bool). intervals k *ℤ pos (cond t 0 (second_us / rate_hz l))) some)

-- so the time of a sample, of any bytes, is the tag and k - 2 whole intervals
pub not-rounded : (n : ℕ) (b : List ℕ) (k : ℕ)
    → sample_time n b k ≡ pos (ms_us * value_of time_tag b) +ℤ intervals k *ℤ pos (interval_us (record_rate n b))
unfolding sample_time record_rate
not-rounded n b k =
    ap (λ (z : ℤ). pos (ms_us * value_of time_tag b) +ℤ z)
    (⊎_elim (λ e. subst (λ (l : SampleRate). from_tag (rate_hz l) k ≡ intervals k *ℤ pos (interval_us l)) (sym e)
    (sym (*ℤ-zero (intervals k))))
    (whole n (value_of (sample_rate n) b) k _) (rate-line n (value_of (sample_rate n) b)))
