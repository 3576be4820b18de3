use Rattle.std.proofs.Common.{◌-◌, ◌^◌}
use Rattle.dcr_serve.proofs.ListeningLemmas.{SoFar}
use Rattle.dcr_serve.proofs.tcp_door.accept_next.Given as goal

abbrev pub invariant-loop-times : goal.invariant-loop-times
invariant-loop-times g l = SoFar g.L.Accept.answered l.initial.listener l.listener l.times l.lost

abbrev pub decreases-loop-times : goal.decreases-loop-times
decreases-loop-times g l = 2 ^ 64 - 1 - l.times
