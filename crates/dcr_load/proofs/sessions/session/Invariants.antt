use Rattle.std.proofs.Common.{◌≡◌, ◌+◌, ◌*◌}
use Rattle.dcr_load.specs.Each.{each_below}
use Rattle.dcr_load.specs.LoadSessions.{call_at}
use Rattle.dcr_load.proofs.sessions.session.Given as goal

abbrev pub invariant-loop-i : goal.invariant-loop-i
invariant-loop-i l = l.calls.items ≡ each_below l.i (λ i. call_at l.number (8 * i + l.k))
