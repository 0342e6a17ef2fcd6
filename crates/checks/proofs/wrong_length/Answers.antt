use Rattle.checks.proofs.Length.{halves}
use Rattle.checks.proofs.wrong_length.Goals as goal

pub returns : goal.returns
returns c = halves c.args.bytes c.args.words
