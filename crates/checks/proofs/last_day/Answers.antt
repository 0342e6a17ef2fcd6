use Rattle.checks.proofs.last_day.Goals as goal

pub returns-then-leap : goal.returns-then-leap
returns-then-leap c = cc

pub returns-else-leap : goal.returns-else-leap
returns-else-leap c = cc
