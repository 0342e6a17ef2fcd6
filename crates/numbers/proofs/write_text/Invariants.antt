-- The text's bytes so far are written.
use lib.ListN.{take}
use Rattle.numbers.specs.Writing.{Written}
use Rattle.numbers.proofs.write_text.Given as goal

abbrev pub invariant-loop-byte : goal.invariant-loop-byte
invariant-loop-byte l = Written l.initial.out l.at (take l.byte-index l.text) l.next l.out
