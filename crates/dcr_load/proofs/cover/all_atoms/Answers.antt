use Rattle.std.proofs.Common.{true, refl, arith}
use Rattle.dcr_load.proofs.SetLemmas.{filled_none, filled_with, filled_as, filled_end}
use Rattle.dcr_load.proofs.cover.all_atoms.Goals as goal

pub loop-atom-init : goal.loop-atom-init
loop-atom-init c = filled_as 200 0 (λ _. true) _ _ c.new-set.ensures.empty (filled_none 200 (λ _. true))

pub loop-atom-preserved : goal.loop-atom-preserved
loop-atom-preserved c =
    filled_as 200 _ (λ _. true) _ _ c.insert.ensures.added (filled_with 200 c.loop-atom.atom (λ _. true) c.loop-atom.set c.loop-atom.invariant c.loop-atom-test.true refl)

pub returns : goal.returns
returns c = filled_end 200 c.loop-atom.atom (λ _. true) c.loop-atom.set (omega arith) c.loop-atom.invariant
