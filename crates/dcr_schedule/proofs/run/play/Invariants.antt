use Rattle.dcr_schedule.proofs.PlayingLemmas.{Playing}
use Rattle.dcr_schedule.proofs.run.play.Given as goal

abbrev pub invariant-loop : goal.invariant-loop
invariant-loop l = Playing l.initial.world l.world
