use Rattle.std.proofs.Common.{◌≡◌}
use Rattle.dcr_load.specs.Each.{each_below}
use Rattle.dcr_load.specs.LoadSessions.{session_at}
use Rattle.dcr_load.proofs.sessions.sessions.Given as goal

abbrev pub invariant-loop-k : goal.invariant-loop-k
invariant-loop-k l = l.sessions.items ≡ each_below l.k (session_at l.number)
