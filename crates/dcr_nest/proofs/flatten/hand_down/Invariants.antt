use Rattle.dcr_nest.proofs.RowLemmas.{HandedDown}
use Rattle.dcr_nest.proofs.flatten.hand_down.Given as goal

abbrev pub invariant-loop-x : goal.invariant-loop-x
invariant-loop-x l = HandedDown l.parents l.fn.rows.items l.rows.items l.x
