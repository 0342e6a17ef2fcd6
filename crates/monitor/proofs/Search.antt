-- The search for a segment's number among those of the rows. Assumes nothing.
use Prim.Native.Nat.{ℕ, ◌≤◌}
use mathlib.Core.Path.{◌≡◌, refl, sym, ◌∙◌}
use mathlib.Core.Bool.{Bool, true, false, cond}
use mathlib.Core.List.{List}
use native.Mathlib.Omega.{arith}
use lib.Dec.{eqb, ltb}
use lib.ListN.{length}
use borrow.Author.Tests.{ltb-false}
use Rattle.std.specs.Prelude.{Some, None, unwrap_or, position}
use Rattle.std.specs.List.{position_or_len}
use Rattle.std.proofs.lemmas.List.Recursion.{is_position_or_len}
use Rattle.std.proofs.lemmas.List.Sums.{prefix_len-le-length}
use Rattle.monitor.specs.Monitor.{place_in}

module _ (ms : List ℕ) (number : ℕ) where
  abbrev at : ℕ
  at = position_or_len (λ m. eqb m number) ms

  -- the place of a number is where the library finds it first, and where it does not, the length
  pub place : place_in ms number ≡ unwrap_or (position (λ m. eqb m number) ms) (length ms)
  unfolding place_in
  place =
      is_position_or_len (λ l. place_in l number) (λ m. eqb m number) refl (λ m l. refl) ms ∙ sym (by-test (ltb at (length ms)) refl)
    where
      by-test : (t : Bool) → ltb at (length ms) ≡ t → unwrap_or (cond t (Some at) None) (length ms) ≡ at
      by-test true a = refl
      by-test false a =
          let most : at ≤ length ms = prefix_len-le-length _ ms in
          omega (arith, ltb-false at (length ms) a, most)
