use Rattle.dcr_nest.proofs.HandedLemmas.{HandedUp}
use Rattle.dcr_nest.proofs.sets.hand_up.Given as goal

abbrev pub invariant-loop-x : goal.invariant-loop-x
invariant-loop-x l = HandedUp l.parents l.sets.items l.x
