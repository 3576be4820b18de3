use Rattle.dcr_work.proofs.SessionLemmas.{SoFar}
use Rattle.dcr_work.proofs.session.run_session.Given as goal

abbrev pub invariant-loop-i : goal.invariant-loop-i
invariant-loop-i g l = SoFar g.N.ClusterName.cluster l.calls l.initial.pass l.i l.pass
