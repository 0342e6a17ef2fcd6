use Prim.Native.Nat.{ℕ, ◌-◌, ◌*◌}
use mathlib.Core.Path.{◌≡◌, ap, ◌∙◌}
use mathlib.Core.List.{List}
use native.Mathlib.Omega.{arith}
use lib.ListN.{length, get_or, take, drop, length-drop}
use lib.Seq.{take_all, get_or-drop}
use Rattle.block_check.specs.Check.{payload_bytes}
use Rattle.block_layout.specs.Layout.{word_bytes, payload_by, payload_length, payload_byte, number_of}
use Rattle.block_export.proofs.Parts.{stored, block-stored}
use Rattle.block_export.proofs.store_block.Goals as goal

-- what is left of the record from block i on, by its place in the record
rest_of : (r : List ℕ) (i : ℕ)
    → let from = payload_bytes * i in
    payload_by (λ k. get_or (take (length r - from) (drop from r)) k 0) ≡ payload_by (payload_byte r i)
rest_of r i =
    let from = payload_bytes * i in
    (λ t. payload_by (λ k. get_or (take_all (length r - from) (drop from r) (omega (arith, length-drop from r)) t) k 0))
    ∙ (λ t. payload_by (λ k. get_or-drop from r k 0 t))

pub returns : goal.returns
unfolding stored
returns c =
    let r = c.args.source.now in
    block-stored c.args.block.now c.store_word.new.pair c.store_word-2.new.pair c.store_word-3.new.pair
    c.store_payload.new.part c.store_word-4.new.pair (number_of r) c.args.i
    (payload_length (length r) c.args.i) (payload_byte r c.args.i) c.requires.0
    (c.store_word.ensures ∙ ap word_bytes c.word_at-number.ensures.0) c.store_word-2.ensures
    (c.store_word-3.ensures ∙ ap word_bytes c.min-bytes.ensures) (c.store_payload.ensures ∙ rest_of r c.args.i)
    (c.store_word-4.ensures ∙ ap word_bytes c.check-check.ensures.0)
