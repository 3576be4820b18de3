use Rattle.dcr_work.proofs.DealingLemmas.{Gathering}
use Rattle.dcr_work.proofs.deal.gather.Given as goal

abbrev pub invariant-loop-k : goal.invariant-loop-k
invariant-loop-k g l = Gathering l.count l.initial.hands l.k l.passes l.hands
