use Rattle.dcr_schedule.proofs.HearingLemmas.{HearingAll}
use Rattle.dcr_schedule.proofs.hear.hear_all.Given as goal

abbrev pub invariant-loop-site : goal.invariant-loop-site
invariant-loop-site l = HearingAll l.site l.initial.world l.world
