use mathlib.Core.Path.{ap, sym, ◌∙◌}
use mathlib.Core.List.{List}
use Rattle.answers.specs.Answer.{accepted}
use Rattle.answers.proofs.Refusals.{answer-ok}
use Rattle.record.specs.Record.{record_refusal}
use Rattle.record.specs.Stretch.{sample_count, stretch_of}
use Rattle.totals.specs.declared.Total.{Total}
use Rattle.totals.specs.Total.{totals_of, set_count}
use Rattle.samples.specs.Totals.{no_totals, totals_answer}
use Rattle.samples.proofs.Judged.{accepted-inside}
use Rattle.samples.proofs.Stretch.{whole-totals}
use Rattle.samples.proofs.record_totals.Goals as goal

pub returns : goal.returns
unfolding totals_answer
returns c =
    let n = c.args.edition in
    let b = c.args.bytes.now in
    let e = c.sample_stretch.ensures in
    let z = c.in_ok-judge.ensures in
    ap (λ (t : List Total). accepted t)
    (c.stretch_totals.ensures ∙ (λ i. totals_of (e i) (set_count (e i))) ∙ whole-totals n b (accepted-inside n b (sym z)))
    ∙ answer-ok (record_refusal n b) no_totals (totals_of (stretch_of n b) (sample_count n b)) z
