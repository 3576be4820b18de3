use Rattle.dcr_load.specs.LoadCover.{owns}
use Rattle.dcr_load.proofs.SetLemmas.{IsFilled}
use Rattle.dcr_load.proofs.cover.owned.Given as goal

abbrev pub invariant-loop-atom : goal.invariant-loop-atom
invariant-loop-atom l = IsFilled 200 l.atom (owns l.number l.site) l.set
