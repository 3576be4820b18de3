use Rattle.std.proofs.Common.{◌≡◌, ◌≤◌, ◌+◌, drop, length}
use Rattle.std.specs.Prelude.{filter}
use Rattle.dcr_schedule.specs.Executions.{is_exec}
use Rattle.dcr_schedule.proofs.count.count_of.Given as goal

abbrev pub invariant-loop-place : goal.invariant-loop-place
invariant-loop-place l = (l.place ≤ length l.calls) × (l.count ≤ l.place) × (l.count + length (filter is_exec (drop l.place l.calls)) ≡ length (filter is_exec l.calls))
