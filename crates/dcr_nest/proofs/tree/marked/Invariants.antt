use Rattle.std.proofs.Common.{◌≡◌, false, length, get_or}
use Rattle.dcr_set.proofs.ToldLemmas.{filled}
use Rattle.dcr_nest.proofs.tree.marked.Given as goal

abbrev pub invariant-loop-e : goal.invariant-loop-e
invariant-loop-e l = l.set ≡ filled (length l.atoms) (λ k. get_or l.marks (get_or l.atoms k 0) false) l.e
