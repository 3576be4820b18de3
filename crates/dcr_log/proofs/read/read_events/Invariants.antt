-- So many records were read, and none of them is bad; their traces are gathered, and the others are left.
use Rattle.std.proofs.Common.{length}
use Rattle.std.specs.Option.{unwrap_or}
use Rattle.csv.specs.Reading.{expected_len}
use Rattle.dcr_log.specs.Left.{left_of}
use Rattle.dcr_log.proofs.LoopLemmas.{HasTaken}
use Rattle.dcr_log.proofs.read.read_events.Given as goal

abbrev pub invariant-loop-gathering : goal.invariant-loop-gathering
invariant-loop-gathering l = HasTaken (unwrap_or (expected_len l.initial.reader) 0) l.initial.reader l.reader l.count l.gathering

abbrev pub decreases-loop-gathering : goal.decreases-loop-gathering
decreases-loop-gathering l = length (left_of l.reader)
