-- The reader begins at the start of the reel; each read hands out a record, whose line is written, or ends the text. Assumes nothing.
use mathlib.Core.Path.{refl}
use Rattle.answers.specs.Refused.{number_of}
use Rattle.listing.proofs.TextFrom.{at-start, at-end, refusal-room, refusal-written, record-room, goes-on, less-left}
use Rattle.listing.proofs.write_walk.Goals as goal

pub loop-record-init : goal.loop-record-init
loop-record-init c = at-start c.new-reader.result c.args.reel c.new-reader.ensures refl c.requires

pub write_record-at-requires : goal.write_record-at-requires
write_record-at-requires c =
    let read = c.in-Ok-Some.ensures in
    record-room c.loop-record.invariant read.result_value read.self_after c.in-Ok-Some.field-0-is

pub loop-record-smaller : goal.loop-record-smaller
loop-record-smaller c =
    let read = c.in-Ok-Some.ensures in
    less-left c.loop-record.invariant read.result_value read.self_after c.in-Ok-Some.field-0-is

pub loop-record-preserved : goal.loop-record-preserved
loop-record-preserved c =
    let read = c.in-Ok-Some.ensures in
    goes-on c.loop-record.invariant read.result_value read.self_after c.in-Ok-Some.field-0-is c.write_record-at.ensures

pub returns-in-Ok-None : goal.returns-in-Ok-None
returns-in-Ok-None c = at-end c.loop-record.invariant c.in-Ok-None.ensures.result_value c.in-Ok-None.field-0-is

pub write_refusal-requires : goal.write_refusal-requires
write_refusal-requires c = refusal-room c.loop-record.invariant (number_of c.in-Err.refusal) c.in-Err.ensures.result_value

pub returns-in-Err : goal.returns-in-Err
returns-in-Err c =
    refusal-written c.loop-record.invariant (number_of c.in-Err.refusal) c.in-Err.ensures.result_value c.write_refusal.ensures
