use mathlib.Core.Path.{refl, ◌∙◌}
use mathlib.Core.List.{[], ◌∷◌}
use Rattle.answers.specs.Answer.{accepted}
use Rattle.answers.proofs.Refusals.{answer-ok}
use Rattle.header.specs.Rows.{phase1, phase2}
use Rattle.header.specs.Edition.{fraction_bits}
use Rattle.times.specs.Phases.{phase_answer}
use Rattle.times.proofs.Counts.{exactly}
use Rattle.times.proofs.phases.Goals as goal

pub returns : goal.returns
unfolding phase_answer
returns c =
    let b = c.args.bytes.now in
    let bits = fraction_bits c.args.edition in
    let p = exactly bits phase1 b refl refl refl c.cycles.result _ c.read_field.ensures c.cycles.ensures in
    let q = exactly bits phase2 b refl refl refl c.cycles-2.result _ c.read_field-2.ensures c.cycles-2.ensures in record {
      result_value = (λ i. accepted (p.0 i ∷ q.0 i ∷ [])) ∙ answer-ok _ [] _ c.in_ok-judge.ensures;
      exactly = (p.1, q.1);
    }
