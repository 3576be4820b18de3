use Rattle.std.proofs.Common.{drop}
use Rattle.dcr_schedule.specs.Executions.{executions_of}
use Rattle.dcr_schedule.proofs.PlayingLemmas.{Telling}
use Rattle.dcr_schedule.proofs.run.run_session.Given as goal

abbrev pub invariant-loop-place : goal.invariant-loop-place
invariant-loop-place l = Telling (executions_of l.session l.calls) (executions_of l.session (drop l.place l.calls)) l.initial.world l.world
