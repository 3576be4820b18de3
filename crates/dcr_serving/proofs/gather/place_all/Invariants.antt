use Rattle.dcr_serving.proofs.GatherLemmas.{Placing}
use Rattle.std.proofs.Common.{vec_len}
use Rattle.dcr_serving.proofs.gather.place_all.Given as goal

abbrev pub invariant-loop-record : goal.invariant-loop-record
invariant-loop-record g l = Placing (λ one. one.pass.session) l.initial.slots l.slots l.initial.records.items l.records.items

abbrev pub decreases-loop-record : goal.decreases-loop-record
decreases-loop-record g l = vec_len l.records
