use Rattle.std.proofs.Common.{vec_len}
use Rattle.dcr_serving.proofs.GatherLemmas.{Gathering}
use Rattle.dcr_serving.proofs.gather.gather.Given as goal

abbrev pub invariant-loop-hand : goal.invariant-loop-hand
invariant-loop-hand g l = Gathering l.initial.share.parts l.initial.share.taken l.share.parts l.share.taken l.initial.slots l.slots l.initial.hands.items l.hands.items

abbrev pub decreases-loop-hand : goal.decreases-loop-hand
decreases-loop-hand g l = vec_len l.hands
