use Prim.Native.Nat.{ℕ, ◌-◌, ◌+◌, min}
use mathlib.Core.Bool.{Bool, ◌&&◌}
use mathlib.Core.List.{List}
use mathlib.Core.Path.{◌≡◌, ap, sym, ◌∙◌}
use mathlib.Core.Logic.{⊎_elim}
use native.Mathlib.Omega.{arith}
use lib.Dec.{eqb}
use lib.ListN.{length, take, drop, get_or, length-take, length-drop}
use lib.Seq.{take_all, get_or-drop}
use Rattle.std.specs.List.{list_all}
use Rattle.std.proofs.lemmas.List.Folds.{list_all_more}
use Rattle.lists.specs.Tests.{all_to}
use Rattle.lists.proofs.Order.{le-or-lt}
use Rattle.block_check.specs.Check.{payload_bytes}
use Rattle.block_layout.specs.Refusals.{padded}
use Rattle.block_import.proofs.Tests.{listed}
use Rattle.block_import.proofs.is_padded.Goals as goal

-- the padding from byte x on, and that it is none where x is past the payload
abbrev padding : List ℕ → ℕ → Bool
padding b x = all_to (λ (k : ℕ). eqb (get_or b (6 + x + k) 0) 0) (payload_bytes - x)

clipped : (b : List ℕ) (x : ℕ) → padding b (min x payload_bytes) ≡ padding b x
unfolding all_to
clipped b x =
    ⊎_elim
    (λ p. ap (padding b) (let e : min x payload_bytes ≡ x = omega arith in e))
    (λ p.
    ap (all_to (λ k. eqb (get_or b (6 + min x payload_bytes + k) 0) 0)) (let e : payload_bytes - min x payload_bytes ≡ 0 = omega arith in e)
    ∙ sym (ap (all_to (λ k. eqb (get_or b (6 + x + k) 0) 0)) (let e : payload_bytes - x ≡ 0 = omega arith in e)))
    (le-or-lt x payload_bytes)

pub loop-byte-preserved : goal.loop-byte-preserved
loop-byte-preserved c =
    let test : ℕ → Bool = λ x. eqb x 0 in
    let m = c.min-bytes.result in
    let rest : List ℕ = take (510 - (6 + m)) (drop (6 + m) c.args.block.now) in
    let i = c.loop-byte.byte-index in
    ap (λ (t : Bool). t && test (get_or rest i 0)) c.loop-byte.invariant ∙ sym (list_all_more test rest i 0 c.loop-byte-test.true)

pub returns : goal.returns
unfolding padded
returns c =
    let b = c.args.block.now in
    let m = c.min-bytes.result in
    let rest = drop (6 + m) b in
    let n = 510 - (6 + m) in
    let few : n ≡ payload_bytes - m = omega arith in
    let all : ℕ = length (take n rest) in
    let size : all ≡ n = omega (arith, length-take n rest, length-drop (6 + m) b, c.requires) in
    let done : c.loop-byte.byte-index ≡ all = omega (arith, c.loop-byte-test.false, c.loop-byte.auto.byte-index-end) in
    c.loop-byte.invariant ∙ ap (λ (k : ℕ). list_all (λ x. eqb x 0) (take k (take n rest))) done
    ∙ ap (list_all (λ x. eqb x 0)) (take_all all (take n rest) (omega arith))
    ∙ listed (λ (x : ℕ). eqb x 0) rest n (omega (arith, length-drop (6 + m) b, c.requires))
    ∙ (λ t. all_to (λ (k : ℕ). eqb (get_or-drop (6 + m) b k 0 t) 0) (few t))
    ∙ ap (padding b) c.min-bytes.ensures ∙ clipped b c.word_at.result ∙ ap (padding b) c.word_at.ensures.0
