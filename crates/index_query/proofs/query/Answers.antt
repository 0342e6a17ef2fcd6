use mathlib.Core.Path.{sym, ◌∙◌}
use Rattle.answers.specs.Answer.{accepted}
use Rattle.index_model.specs.Buffers.{lent}
use Rattle.index_model.specs.Calls.{second_shown}
use Rattle.index_cells.specs.Blocks.{block_or_none}
use Rattle.index_query.proofs.Asking.{asked}
use Rattle.index_query.proofs.query.Goals as goal

pub returns-clause-result_value : goal.returns-clause-result_value
returns-clause-result_value c =
    let a = c.args in
    (λ t. accepted (c.second_from.ensures.0 t))
    ∙ (λ t. accepted (second_shown a.o (c.block.ensures t)))
    ∙ (λ t. accepted (second_shown a.o (block_or_none a.seconds.now (c.window_place-place.ensures t))))
    ∙ asked a.o a.second (lent a.rows.now a.seconds.now) (sym c.in_ok-judge.ensures)
