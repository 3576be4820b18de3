use Rattle.dcr_schedule.proofs.HearingLemmas.{Hearing}
use Rattle.dcr_schedule.proofs.hear.hear.Given as goal

abbrev pub invariant-loop-index : goal.invariant-loop-index
invariant-loop-index l = Hearing l.site l.index l.initial.world l.world
