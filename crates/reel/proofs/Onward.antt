-- A walk of at most so many records from any place of a reel of the edition n, by induction over how many: the lemmas of
-- proofs/Walk. Assumes nothing.
use Prim.Native.Nat.{ℕ, zero, suc, ◌+◌, ◌*◌, ◌≤◌}
use mathlib.Core.Path.{◌≡◌, refl, ap, sym, subst, ◌∙◌}
use mathlib.Core.Bool.{Bool, true, false}
use mathlib.Core.List.{List, [], ◌++◌, flatten}
use native.Mathlib.Omega.{arith}
use lib.ListN.{length, drop, drop_of_length-le}
use Rattle.header.specs.Edition.{header_bytes}
use Rattle.reel.specs.Reel.{finished, step_at, record_at, next_place}
use Rattle.reel.specs.Walk.{Walk, is_record, stopped, handing, onward, walk_from, AllAccepted}
use Rattle.reel.proofs.Rest.{header-size}
use Rattle.reel.proofs.Place.{Told, told, split, moved}

-- what a walk w from a place on keeps to
pub record Along (n : ℕ) (reel : List ℕ) (place : ℕ) (w : Walk) : Type 0 where
  pub joined : w.last ≡ finished → flatten w.records ≡ drop place reel
  pub good : AllAccepted n w.records
  pub there : w.last ≡ step_at n reel w.place
  pub on : place + header_bytes n * length w.records ≤ w.place
  pub inside : place ≤ length reel → w.place ≤ length reel

module _ (n : ℕ) (reel : List ℕ) where
  ended : (place : ℕ) → step_at n reel place ≡ finished → [] ≡ drop place reel
  ended place e = sym (drop_of_length-le reel (subst (Told n reel place) e (told n reel place)))

  along-stopped : (place : ℕ) → Along n reel place (stopped n reel place)
  unfolding flatten
  along-stopped place = record { joined = ended place; good = tt; there = refl; on = omega arith; inside = λ h. h }

  along-handing : (place : ℕ) (w : Walk) → is_record (step_at n reel place) ≡ true → Along n reel (next_place n reel place) w
      → Along n reel place (handing (record_at n reel place) w)
  unfolding flatten
  along-handing place w e a =
      let m = moved n reel place e in
      record {
        joined = λ f. ap (λ (l : List ℕ). record_at n reel place ++ l) (a.joined f) ∙ split n reel place;
        good = (m.good, a.good);
        there = a.there;
        on = omega (arith, m.header, a.on);
        inside = λ _. a.inside m.inside;
      }

  along-onward : (go : ℕ → Walk) (place : ℕ) (b : Bool) → is_record (step_at n reel place) ≡ b
      → Along n reel (next_place n reel place) (go (next_place n reel place)) → Along n reel place (onward n reel go place b)
  along-onward go place true e a = along-handing place (go (next_place n reel place)) e a
  along-onward go place false e a = along-stopped place

  pub along : (most place : ℕ) → Along n reel place (walk_from n reel most place)
  unfolding walk_from
  along zero place = along-stopped place
  along (suc most) place =
      along-onward (walk_from n reel most) place (is_record (step_at n reel place)) refl (along most (next_place n reel place))

  -- no record stands past the end
  none_left : (place : ℕ) → length reel ≤ place → is_record (step_at n reel place) ≡ false
  none_left place h = by-test (is_record (step_at n reel place)) refl
    where
      by-test : (b : Bool) → is_record (step_at n reel place) ≡ b → b ≡ false
      by-test true e =
          let m = moved n reel place e in
          absurd (let z : ⊥ = omega (arith, m.header, m.inside, (header-size n).0) in z)
      by-test false e = refl

  -- as many records are enough as bytes are left
  pub enough : (most place : ℕ) → length reel ≤ place + most → is_record (walk_from n reel most place).last ≡ false
  unfolding walk_from
  enough zero place h = none_left place (omega arith)
  enough (suc most) place h =
      by-test (walk_from n reel most) (is_record (step_at n reel place)) refl
      (λ m. enough most (next_place n reel place) (omega (arith, h, m, (header-size n).0)))
    where
      by-test : (go : ℕ → Walk) (b : Bool) → is_record (step_at n reel place) ≡ b
          → (place + header_bytes n ≤ next_place n reel place → is_record (go (next_place n reel place)).last ≡ false)
          → is_record (onward n reel go place b).last ≡ false
      by-test go true e f = f (moved n reel place e).header
      by-test go false e f = e

  -- where as many records are allowed as bytes are left, one more changes nothing
  pub settled : (most place : ℕ) → length reel ≤ place + most → walk_from n reel (suc most) place ≡ walk_from n reel most place
  unfolding walk_from
  settled zero place h = ap (onward n reel (walk_from n reel zero) place) (none_left place (omega arith))
  settled (suc most) place h =
      by-test (is_record (step_at n reel place)) refl
      (λ m. settled most (next_place n reel place) (omega (arith, h, m, (header-size n).0)))
    where
      by-test : (b : Bool) → is_record (step_at n reel place) ≡ b
          → (place + header_bytes n ≤ next_place n reel place
          → walk_from n reel (suc most) (next_place n reel place) ≡ walk_from n reel most (next_place n reel place))
          → onward n reel (walk_from n reel (suc most)) place b ≡ onward n reel (walk_from n reel most) place b
      by-test true e f = ap (handing (record_at n reel place)) (f (moved n reel place e).header)
      by-test false e f = refl
