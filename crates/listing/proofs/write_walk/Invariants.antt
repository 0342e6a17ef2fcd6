-- What the reader has not read is still to be written, and completes the text of the walk. The measure is what is left of the reel.
-- Assumes nothing.
use Rattle.reel.specs.Walk.{walk}
use Rattle.listing.specs.Listing.{walk_text}
use Rattle.listing.proofs.TextFrom.{Going, left}
use Rattle.listing.proofs.write_walk.Given as goal

abbrev pub invariant-loop-record : goal.invariant-loop-record
invariant-loop-record l = Going l.initial.out l.initial.at (walk_text (walk 1985 l.fn.reel)) l.reader l.out l.at

abbrev pub decreases-loop-record : goal.decreases-loop-record
decreases-loop-record l = left l.reader
