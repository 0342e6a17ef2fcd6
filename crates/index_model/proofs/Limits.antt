-- What the tests of an opening give: the window, the range of numbers, the limits; and the most records that a second can have.
-- Assumes nothing.
use Prim.Native.Nat.{ℕ, ◌+◌, ◌*◌, ◌<◌, ◌≤◌}
use mathlib.Core.Path.{◌≡◌}
use mathlib.Core.Bool.{Bool, true, false, cond, ◌&&◌, ◌||◌}
use mathlib.Core.List.{List, [], ◌∷◌}
use native.Mathlib.Omega.{arith}
use lib.Dec.{T, eqb, ltb, leb, leb→le, ltb→lt}
use lib.ListN.{length}
use borrow.Author.Tests.{eqb-true, eqb-false, ltb-false, le-ltb, le-leb, lt-ltb, not-false}
use Rattle.lists.proofs.Truth.{left, right, held, or-false}
use Rattle.header.proofs.Sound.{of-editions}
use Rattle.answers.specs.Refusal.{◌when◌}
use Rattle.answers.proofs.Refusals.{none-applies}
use Rattle.sample_rates.specs.declared.SampleRate.{SampleRate}
use Rattle.sample_rates.specs.Rates.{rates1985, rates1992, line_in, records_per_second}
use Rattle.editions.specs.Rates.{sample_rate_of}
use Rattle.index_model.specs.Records.{Record, rate_in}
use Rattle.index_model.specs.declared.Opening.{Opening}
use Rattle.index_model.specs.Cells.{width}
use Rattle.index_model.specs.Buffers.{Buffers}
use Rattle.index_model.specs.Limits.{WithinLimits}
use Rattle.index_model.specs.Opening.{
  highest_limit,
  day_seconds,
  limits_wrong,
  held_wrong,
  too_small,
  opening_refusal,
  other_reel,
  is_outside,
  in_window,
}
use Rattle.index_model.specs.Calls.{full_count}
use Rattle.index_model.proofs.Window.{F, C, R}

module _ (o : Opening) where
  pub in_window_lem : (s : ℕ) → in_window o s ≡ true → (F o ≤ s) × (s < F o + C o)
  unfolding in_window
  in_window_lem s e = (
    leb→le (F o) s (left (leb (F o) s) (ltb s (F o + C o)) (held (in_window o s) e)),
    ltb→lt s (F o + C o)
        (right (leb (F o) s) (ltb s (F o + C o)) (held (in_window o s) e)),
  )

  pub window-in : (s : ℕ) → (F o ≤ s) × (s < F o + C o) → in_window o s ≡ true
  unfolding in_window
  window-in s w = λ t. le-leb (F o) s w.0 t && lt-ltb s (F o + C o) w.1 t

  pub in-range : (n : ℕ) → is_outside o n ≡ false → (0 < n) × (n ≤ R o)
  unfolding is_outside
  in-range n e =
      let t = or-false (eqb n 0) (ltb (R o) n) e in
      let z : n ≡ 0 → ⊥ = eqb-false n 0 t.0 in
      (omega (arith, z), ltb-false (R o) n t.1)

  pub same-rate : (b : Record) → other_reel o b ≡ false → (b.edition ≡ o.edition) × (rate_in b ≡ o.sample_rate_hz)
  unfolding other_reel
  same-rate b e =
      let both = or-false _ _ (or-false _ _ (or-false _ _ (or-false _ _ (or-false _ _ (or-false _ _ e).0).0).0).0).0 in
      (eqb-true b.edition o.edition (not-false _ both.0), eqb-true (rate_in b) o.sample_rate_hz (not-false _ both.1))

  module _ (c : Buffers) where
    -- buffers that 14 does not refuse have the cells
    pub enough : too_small o c ≡ false → (width * R o ≤ length c.rows)
        × (width * C o ≤ length c.seconds)
    unfolding too_small
    enough e =
        let t = or-false (ltb (length c.rows) (width * R o)) (ltb (length c.seconds) (width * C o)) e in
        (ltb-false (length c.rows) (width * R o) t.0, ltb-false (length c.seconds) (width * C o) t.1)

    -- what 13 and 14 leave
    pub within-limits : opening_refusal o c ≡ 0 → WithinLimits o c
    unfolding opening_refusal limits_wrong
    within-limits e =
        let checks = 13 when (limits_wrong o || held_wrong o) ∷ 14 when too_small o c ∷ [] in
        let limits = (or-false (limits_wrong o) (held_wrong o) (none-applies checks 0 tt e)).0 in
        let a = or-false (eqb (R o) 0 || ltb highest_limit (R o) || eqb (C o) 0
        || ltb day_seconds (C o)) (ltb day_seconds (F o + C o)) limits in
        let b = or-false (eqb (R o) 0 || ltb highest_limit (R o) || eqb (C o) 0) (ltb day_seconds (C o)) a.0 in
        let c' = or-false (eqb (R o) 0 || ltb highest_limit (R o)) (eqb (C o) 0) b.0 in
        let cells = enough (none-applies checks 1 tt e) in
        record {
          day = ltb-false day_seconds (F o + C o) a.1;
          numbers = ltb-false highest_limit (R o) (or-false (eqb (R o) 0) (ltb highest_limit (R o)) c'.0).1;
          rows_long = cells.0;
          seconds-long = cells.1;
        }

    -- an opening within its limits is refused by no call whose buffers are long enough
    pub opening-fine : limits_wrong o || held_wrong o ≡ false → width * R o ≤ length c.rows
        → width * C o ≤ length c.seconds → opening_refusal o c ≡ 0
    unfolding opening_refusal too_small
    opening-fine e p q =
        λ t. cond (e t) 13 (cond (le-ltb (length c.rows) (width * R o) p t
        || le-ltb (length c.seconds) (width * C o) q t) 14 0)

-- ## L

abbrev pub most_records : ℕ
most_records = 50

-- the one computed test of a table of rates
most_in : List SampleRate → Bool
most_in [] = true
most_in (l ∷ ls) = leb (records_per_second l) most_records && most_in ls

line-most : (ls : List SampleRate) (hz : ℕ) → T (most_in ls) → records_per_second (line_in ls hz) ≤ most_records
unfolding line_in most_in
line-most [] hz t = omega arith
line-most (l ∷ ls) hz t = by-test (eqb l.hz hz) (line-most ls hz (right (leb (records_per_second l) most_records) (most_in ls) t))
  where
    by-test : (b : Bool) → records_per_second (line_in ls hz) ≤ most_records
        → records_per_second (cond b l (line_in ls hz)) ≤ most_records
    by-test true r = leb→le (records_per_second l) most_records (left (leb (records_per_second l) most_records) (most_in ls) t)
    by-test false r = r

pub full-most : (o : Opening) → full_count o ≤ most_records
unfolding sample_rate_of most_in
full-most o =
    of-editions (λ e. records_per_second (line_in e.rate-lines o.sample_rate_hz) ≤ most_records)
    (line-most rates1985 _ tt) (line-most rates1992 _ tt) o.edition
