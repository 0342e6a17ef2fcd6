use lib.IntN.{pos}
use Rattle.lists.proofs.Fill.{Filled}
use Rattle.channels.specs.Sample.{sample_of}
use Rattle.channels.proofs.copy_channel.Given as goal

abbrev pub invariant-loop-k : goal.invariant-loop-k
invariant-loop-k l = Filled l.initial.out (sample_of l.stretch l.fn.channel.number) (pos 0) l.k l.out
