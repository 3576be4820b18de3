use Rattle.dcr_set.proofs.RunLemmas.{IsFullTo}
use Rattle.dcr_set.proofs.runs.first_clear.Given as goal

abbrev pub invariant-loop-i : goal.invariant-loop-i
invariant-loop-i l = IsFullTo l.words l.from l.i
