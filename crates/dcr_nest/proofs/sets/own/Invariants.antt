use Rattle.std.proofs.Common.{◌≡◌}
use Rattle.dcr_nest.proofs.HandedLemmas.{own_of}
use Rattle.dcr_nest.proofs.sets.own.Given as goal

abbrev pub invariant-loop-e : goal.invariant-loop-e
invariant-loop-e l = l.sets.items ≡ own_of l.atoms l.count l.e
