use Rattle.checks.proofs.wrong_date.Goals as goal

pub returns : goal.returns
returns c = cc
