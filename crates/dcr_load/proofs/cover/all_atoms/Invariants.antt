use Rattle.std.proofs.Common.{true}
use Rattle.dcr_load.proofs.SetLemmas.{IsFilled}
use Rattle.dcr_load.proofs.cover.all_atoms.Given as goal

abbrev pub invariant-loop-atom : goal.invariant-loop-atom
invariant-loop-atom l = IsFilled 200 l.atom (λ _. true) l.set
