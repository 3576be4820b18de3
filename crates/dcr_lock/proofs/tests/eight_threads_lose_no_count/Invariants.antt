use Rattle.std.proofs.Common.{◌≡◌}
use Rattle.dcr_lock.proofs.tests.eight_threads_lose_no_count.Given as goal

abbrev pub invariant-loop-spare : goal.invariant-loop-spare
invariant-loop-spare g l = (l.end.places ≡ 4) × (l.end.emptied ≡ l.spare)
