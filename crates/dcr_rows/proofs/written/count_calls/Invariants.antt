use Rattle.std.proofs.Common.{◌≡◌, List, length, take}
use Rattle.std.specs.List.{sum_by}
use Rattle.dcr_journal.specs.declared.call.Call.{Call}
use Rattle.dcr_rows.proofs.written.count_calls.Given as goal

abbrev pub invariant-loop-calls : goal.invariant-loop-calls
invariant-loop-calls l = l.count ≡ sum_by (λ (calls : List Call). length calls) (take l.calls-index l.sessions)
