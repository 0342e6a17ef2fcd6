-- A call that gives bytes into a lent buffer, or refuses and changes nothing: export, of one block too, and import alike. Assumes
-- nothing.
use Prim.Native.Nat.{ℕ}
use mathlib.Core.Path.{◌≡◌, ap, sym, ◌∙◌}
use mathlib.Core.List.{List, ◌++◌}
use lib.ListN.{length, drop}
use Rattle.answers.specs.Answer.{accepted, refused}
use Rattle.answers.proofs.Refusals.{unless-none, unless-some, cond-none, cond-some}
use Rattle.block_layout.specs.Given.{length_answer, buffer_after}

module _ (m : ℕ) (given out : List ℕ) where
  pub refuses : (k : ℕ) → k ≡ m → (k ≡ 0 → ⊥) → (refused 0 k ≡ length_answer m given) × (out ≡ buffer_after m given out)
  refuses k e some = (
    ap (refused 0) e ∙ unless-some m 0 (length given) (λ z. some (e ∙ z)),
    sym (cond-some m out (given ++ drop (length given) out) (λ z. some (e ∙ z))),
  )

  -- where what is given is x
  pub gives : (x : List ℕ) → given ≡ x → m ≡ 0
      → (length_answer m given ≡ accepted (length x)) × (buffer_after m given out ≡ x ++ drop (length x) out)
  gives x e none = (
    sym (unless-none m 0 (length given) none) ∙ ap (λ (l : List ℕ). accepted (length l)) e,
    cond-none m out (given ++ drop (length given) out) none ∙ ap (λ (l : List ℕ). l ++ drop (length l) out) e,
  )

  pub accepts : m ≡ 0 → (accepted (length given) ≡ length_answer m given) × (given ++ drop (length given) out ≡ buffer_after m given out)
  accepts e = (unless-none m 0 (length given) e, sym (cond-none m out (given ++ drop (length given) out) e))
