use Prim.Native.Nat.{ℕ}
use mathlib.Core.Path.{ap, ◌∙◌}
use Rattle.answers.specs.Refused.{number_of}
use Rattle.text.specs.Text.{refused_line}
use Rattle.text.specs.Placed.{answer_at, buffer_at}
use Rattle.text.proofs.Judging.{put-ok, put_written}
use Rattle.listing.proofs.write_refusal.Goals as goal

pub unwrap-requires : goal.unwrap-requires
unwrap-requires c =
    let a = c.args in
    put-ok a.out.now a.at (refused_line (number_of a.refusal)) c.put_refused_line.result c.requires
    (c.put_refused_line.ensures.result_value
    ∙ ap (λ (n : ℕ). answer_at a.out.now a.at (refused_line n)) (c.from-2.ensures ∙ c.from.ensures))

pub returns : goal.returns
returns c =
    let a = c.args in
    let put = c.put_refused_line.ensures in
    let same = c.from-2.ensures ∙ c.from.ensures in
    put_written a.out.now a.at (refused_line (number_of a.refusal)) c.requires c.unwrap.ensures
    (put.result_value ∙ ap (λ (n : ℕ). answer_at a.out.now a.at (refused_line n)) same)
    (put.out_after ∙ ap (λ (n : ℕ). buffer_at a.out.now a.at (refused_line n)) same)
