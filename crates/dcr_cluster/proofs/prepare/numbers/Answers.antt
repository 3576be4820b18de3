use Rattle.std.proofs.Common.{ℕ, List, [], ◌∷◌, ◌++◌, sym, ap, ◌∙◌}
use Rattle.dcr_cluster.proofs.ClosingLemmas.{range_more}
use Rattle.dcr_cluster.proofs.prepare.numbers.Goals as goal

pub loop-i-preserved : goal.loop-i-preserved
loop-i-preserved c = c.in_ok-push.ensures.items ∙ ap (λ (l : List ℕ). l ++ c.loop-i.i ∷ []) c.loop-i.invariant ∙ sym (range_more c.loop-i.i)
