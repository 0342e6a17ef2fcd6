use mathlib.Core.Path.{sym, ap, ◌∙◌}
use Prim.Native.Nat.{ℕ}
use native.Mathlib.Numerals.{add-one}
use lib.ListN.{take}
use lib.Seq.{take-suc}
use Rattle.numbers.proofs.Writing.{written_both}
use Rattle.numbers.proofs.write_text.Goals as goal

pub loop-byte-preserved : goal.loop-byte-preserved
loop-byte-preserved c =
    let i = c.loop-byte.byte-index in
    let text = c.args.text.now in
    let one_more = sym (ap (λ (k : ℕ). take k text) (add-one i) ∙ take-suc text i 0 c.loop-byte-test.true) in
    written_both one_more c.loop-byte.invariant c.write_byte-next.ensures
