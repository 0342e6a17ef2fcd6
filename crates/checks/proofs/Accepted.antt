-- What 25 and 1 to 11 leave of what is judged, where none of them applies. Assumes nothing.
use Prim.Native.Nat.{ℕ, ◌*◌, ◌≤◌}
use mathlib.Core.Path.{◌≡◌, ap}
use mathlib.Core.Bool.{true, false}
use mathlib.Core.Logic.{◌⊎◌, inl, inr, ⊎_elim}
use lib.Dec.{eqb}
use lib.ListN.{get_or}
use borrow.Author.Tests.{ltb-false, eqb-true, eqb-false, not-false}
use Rattle.lists.proofs.Truth.{and-false, or-false}
use Rattle.answers.specs.Refusal.{first}
use Rattle.answers.proofs.Refusals.{no_check, none-applies}
use Rattle.header.specs.Edition.{is_unknown, layout_of, header_bytes}
use Rattle.sample_rates.specs.Rates.{rate_hz, words_a, words_b}
use Rattle.editions.specs.Rates.{sample_rate_of}
use Rattle.sample_rates.proofs.Lines.{SoundLine}
use Rattle.editions.proofs.Lines.{rate-line}
use Rattle.checks.specs.declared.Judged.{Judged}
use Rattle.checks.specs.Checks.{last_ms, checks}

pub record Accepted (n : ℕ) (j : Judged) : Type 0 where
  pub known : is_unknown n ≡ false
  pub long : header_bytes n ≤ j.bytes
  pub words : j.bytes ≡ 2 * j.length_words
  pub line : SoundLine (layout_of n) j.sample_rate (sample_rate_of n j.sample_rate)
  pub size : (j.length_words ≡ words_b (sample_rate_of n j.sample_rate)) ⊎ (j.length_words
      ≡ words_a (sample_rate_of n j.sample_rate))
  pub tag : j.time_tag ≤ last_ms
  pub good : j.decimals ≡ true

-- a rate that 5 accepts has a line
has-line : (n hz : ℕ) → eqb (rate_hz (sample_rate_of n hz)) 0 ≡ false → SoundLine (layout_of n) hz (sample_rate_of n hz)
has-line n hz e =
    ⊎_elim (λ z. absurd (eqb-false (rate_hz (sample_rate_of n hz)) 0 e (ap rate_hz z))) (λ s. s) (rate-line n hz)

module _ (n : ℕ) (j : Judged) (e : first (checks n j) ≡ 0) where
  at : (k : ℕ) → (get_or (checks n j) k no_check).applies ≡ false
  at k = none-applies (checks n j) k tt e

  pub accepted-facts : Accepted n j
  accepted-facts =
      record {
        known = at 0;
        long = ltb-false j.bytes (header_bytes n) (at 1);
        words = eqb-true j.bytes (2 * j.length_words) (not-false _ (at 2));
        line = has-line n j.sample_rate (at 5);
        size =
            ⊎_elim (λ p. inl (eqb-true _ _ (not-false _ p))) (λ p. inr (eqb-true _ _ (not-false _ p)))
            (and-false _ _ (at 6));
        tag = ltb-false last_ms j.time_tag (or-false _ _ (at 9)).0;
        good = not-false j.decimals (at 10);
      }
