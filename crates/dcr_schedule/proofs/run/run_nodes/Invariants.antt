use Rattle.std.proofs.Common.{drop}
use Rattle.dcr_journal.specs.Run.{numbered}
use Rattle.dcr_schedule.specs.Executions.{exec_calls}
use Rattle.dcr_schedule.proofs.PlayingLemmas.{Telling}
use Rattle.dcr_schedule.proofs.run.run_nodes.Given as goal

abbrev pub invariant-loop-session : goal.invariant-loop-session
invariant-loop-session l = Telling (numbered 0 (exec_calls l.sessions)) (numbered l.session (exec_calls (drop l.session l.sessions))) l.initial.world l.world
