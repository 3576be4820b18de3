use Rattle.std.proofs.Common.{[], ◌∷◌, take}
use Rattle.dcr_run.proofs.HearingLemmas.{HeardBy}
use Rattle.dcr_node.specs.Streams.{IsLonger}
use Rattle.dcr_node.proofs.journal_node.tell_each.Given as goal

abbrev pub invariant-loop-participant : goal.invariant-loop-participant
invariant-loop-participant l = HeardBy (IsLonger (l.e ∷ [])) (take l.participant-index l.participants) l.fn.streams l.streams
