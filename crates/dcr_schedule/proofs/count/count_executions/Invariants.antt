use Rattle.std.proofs.Common.{◌≡◌, ◌≤◌, ◌+◌, drop, length}
use Rattle.dcr_journal.specs.Run.{numbered}
use Rattle.dcr_schedule.specs.Executions.{exec_calls}
use Rattle.dcr_schedule.proofs.count.count_executions.Given as goal

abbrev pub invariant-loop-session : goal.invariant-loop-session
invariant-loop-session l = (l.session ≤ length l.sessions) × (l.count + length (numbered l.session (exec_calls (drop l.session l.sessions))) ≡ length (numbered 0 (exec_calls l.sessions)))
