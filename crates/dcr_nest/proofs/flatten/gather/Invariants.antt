use Rattle.dcr_nest.proofs.RowLemmas.{Gathered}
use Rattle.dcr_nest.proofs.flatten.gather.Given as goal

abbrev pub invariant-loop-pair : goal.invariant-loop-pair
invariant-loop-pair l = Gathered l.below l.kind l.relations l.fn.rows.items l.rows.items l.pair-index
