use Rattle.std.proofs.Common.{vec_len}
use Rattle.dcr_work.proofs.DealingLemmas.{Dealing}
use Rattle.dcr_work.proofs.deal.deal.Given as goal

abbrev pub invariant-loop-pass : goal.invariant-loop-pass
invariant-loop-pass g l = Dealing l.initial.passes l.initial.hands l.passes l.hands

abbrev pub decreases-loop-pass : goal.decreases-loop-pass
decreases-loop-pass g l = vec_len l.passes
