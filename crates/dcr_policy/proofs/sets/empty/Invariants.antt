use Rattle.std.proofs.Common.{◌≡◌, replicate}
use Rattle.dcr_set.specs.EventSet.{no_event}
use Rattle.dcr_policy.proofs.sets.empty.Given as goal

abbrev pub invariant-loop : goal.invariant-loop
invariant-loop l = l.sets.items ≡ replicate l.counter (no_event l.room)
